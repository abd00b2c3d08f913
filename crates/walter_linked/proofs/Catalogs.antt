-- A catalog that was built is whole: each container is preferred at one of its sites.
use Rattle.std.proofs.Common.{◌≡◌, ℕ, ◌<◌, zero, suc, List, [], ◌∷◌, map, cond, Bool, true, false, Option, Some, slice_get, refl, ap, sym, ◌∙◌, subst, inl, inr}
use Rattle.std.proofs.lemmas.Bool.{cases_lt}
use Rattle.std.proofs.lemmas.Option.{slice_get_within}
use Rattle.std.specs.BTreeMap.{is_at}
use Rattle.std.specs.FinMap.{FinMap, get}
use Rattle.std.specs.Ordering.{nat_cmp}
use Rattle.walter_base.specs.declared.catalog.Catalog.{Catalog}
use Rattle.walter_base.specs.declared.containers.Container.{Container}
use Rattle.walter_base.specs.Catalogs.{Item, entry_of, containers_of, AreRight, nowhere}
use Rattle.walter_base.proofs.Maps.{entry_at, get_entry}
use Rattle.walter_linked.specs.Catalogs.{IsWhole}

-- one of the items declares the container
abbrev IsDeclared : List Item → Container → Type 0
IsDeclared items container =
    (place : ℕ) × (item : Item) × (slice_get items place ≡ Some item) × ((entry_of item).1 ≡ container)

declared_on : (item : Item) (items : List Item) (container : Container) (here : Bool) (found : Option Container)
    → (found ≡ Some container → IsDeclared items container)
    → cond here (Some (entry_of item).1) found ≡ Some container → IsDeclared (item ∷ items) container
declared_on item items container true found behind is = (zero, item, refl, cc)
declared_on item items container false found behind is =
    let there = behind is in
    (suc there.0, there.1, there.2, there.3)

-- what is found among the entries of items is declared by one
declared_by : (items : List Item) (number : ℕ) (container : Container)
    → entry_at (map entry_of items) number ≡ Some container → IsDeclared items container
declared_by [] number container is = absurd cc
declared_by (item ∷ items) number container is =
    declared_on item items container (is_at (nat_cmp number) item.0) (entry_at (map entry_of items) number)
    (declared_by items number container) is

-- each item of a right list has one of the sites
right_within : (sites : ℕ) (items : List Item) (place : ℕ) (item : Item) → AreRight sites items
    → slice_get items place ≡ Some item → item.2.0 < sites
right_within sites items place item right at = elim (cases_lt item.2.0 sites) [
  | inl below ↦ below
  | inr past ↦ absurd (right place (slice_get_within items place item at) (nowhere item at past))
]

pub right_whole : (catalog : Catalog) (items : List Item) → AreRight catalog.sites items
    → catalog.containers ≡ containers_of items → IsWhole catalog
right_whole catalog items right are number container at =
    let found : entry_at (map entry_of items) number ≡ Some container =
    sym (get_entry (map entry_of items) number)
    ∙ (ap (λ (m : FinMap nat_cmp Container). get m number) (sym are) ∙ at) in
    let there = declared_by items number container found in
    subst (λ (c : Container). c.preferred.0 < catalog.sites) there.3
    (right_within catalog.sites items there.0 there.1 right there.2)
