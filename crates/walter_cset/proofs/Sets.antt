-- What follows where one set gets a tally, and each other keeps its own.
use Rattle.std.proofs.Common.{◌≡◌, ℕ, ◌+◌, ◌&&◌, nat_eq, arith, Bool, true, false, List, Option, Some, None, is_some, cond, refl, ap, sym, ◌∙◌, subst, option_map, if◌then◌else◌}
use Rattle.std.specs.Prelude.{ℤ, pos, ◌+ℤ◌}
use Rattle.std.specs.BTreeMap.{BTreeMap, is_at}
use Rattle.std.specs.Map.{lookup}
use Rattle.std.specs.Option.{option_map_or}
use Rattle.std.specs.Ordering.{nat_cmp}
use Rattle.std.proofs.lemmas.Int.{ints}
use Rattle.std.proofs.lemmas.Map.Made.{lookup-map_values}
use Rattle.indexmap.specs.IndexMap.{IndexMap, WritesThrough}
use Rattle.walter_base.specs.declared.names.ObjId.{ObjId}
use Rattle.walter_base.specs.Names.{same_object}
use Rattle.walter_base.proofs.NameTests.{same_object-true, same_object_refl}
use Rattle.walter_cset.specs.Tallies.{number_in, number_at}
use Rattle.walter_cset.specs.Totals.{tally_of, total_in, IsPlaced, IsWithin, sets_in}

abbrev pub Sets : Type 0
Sets = List (ObjId × BTreeMap ℕ ℤ)

abbrev pub entries_of : BTreeMap ℕ ℤ → List (ℕ × ℤ)
entries_of tally = tally.entries

-- what a look-up finds
pub tally_found : (sets : Sets) (oid : ObjId) → tally_of (sets_in sets) oid ≡ option_map entries_of (lookup (same_object oid) sets)
tally_found sets oid = lookup-map_values entries_of (same_object oid) sets

pub tally_is : (sets : Sets) (oid : ObjId) (tally : BTreeMap ℕ ℤ) → Some tally ≡ lookup (same_object oid) sets → tally_of (sets_in sets) oid ≡ Some tally.entries
tally_is sets oid tally is = tally_found sets oid ∙ ap (option_map entries_of) (sym is)

pub no_tally : (sets : Sets) (oid : ObjId) → None ≡ lookup (same_object oid) sets → tally_of (sets_in sets) oid ≡ None
no_tally sets oid is = tally_found sets oid ∙ ap (option_map entries_of) (sym is)

pub found_same : (sets : Sets) (oid : ObjId) → is_some (tally_of (sets_in sets) oid) ≡ is_some (lookup (same_object oid) sets)
found_same sets oid = ap is_some (tally_found sets oid) ∙ by (lookup (same_object oid) sets)
  where
    by : (o : Option (BTreeMap ℕ ℤ)) → is_some (option_map entries_of o) ≡ is_some o
    by None = refl
    by (Some tally) = refl

-- the counts and the places by the tally
pub total_at : (sets : Sets) (oid : ObjId) (tally : BTreeMap ℕ ℤ) (id : ℕ) → Some tally ≡ lookup (same_object oid) sets → total_in (sets_in sets) oid id ≡ number_at tally id
total_at sets oid tally id is = ap (λ o. option_map_or (λ t. number_in t id) o (pos 0)) (tally_is sets oid tally is)

pub no_total : (sets : Sets) (oid : ObjId) (id : ℕ) → None ≡ lookup (same_object oid) sets → total_in (sets_in sets) oid id ≡ pos 0
no_total sets oid id is = ap (λ o. option_map_or (λ t. number_in t id) o (pos 0)) (no_tally sets oid is)

-- one set gets a tally
abbrev pub SetsTally : Sets → Sets → ObjId → BTreeMap ℕ ℤ → Type 0
SetsTally before after oid tally = (q : ObjId) → lookup (same_object q) after ≡ cond (same_object oid q) (Some tally) (lookup (same_object q) before)

pub sets_lent : {S : Type 0} (before after : IndexMap ObjId (BTreeMap ℕ ℤ) S) (oid : ObjId) (was tally : BTreeMap ℕ ℤ)
    → Some was ≡ lookup (same_object oid) before.entries → WritesThrough same_object (same_object oid) before tally after
    → SetsTally before.entries after.entries oid tally
sets_lent before after oid was tally is writes = (writes.3 (ap is_some (sym is))).0

module _ (before after : Sets) (oid : ObjId) (tally : BTreeMap ℕ ℤ) (sets : SetsTally before after oid tally) where
  part : {X : Type 0} (f : List (ℕ × ℤ) → X) (none : X) (other : ObjId)
      → option_map_or f (tally_of (sets_in after) other) none ≡ (if same_object oid other then f tally.entries else option_map_or f (tally_of (sets_in before) other) none)
  part f none other =
      ap (λ o. option_map_or f o none) (tally_found after other ∙ ap (option_map entries_of) (sets other))
      ∙ by (same_object oid other)
      ∙ ap (λ o. if same_object oid other then f tally.entries else option_map_or f o none) (sym (tally_found before other))
    where
      by : (b : Bool) → option_map_or f (option_map entries_of (cond b (Some tally) (lookup (same_object other) before))) none
          ≡ (if b then f tally.entries else option_map_or f (option_map entries_of (lookup (same_object other) before)) none)
      by true = refl
      by false = refl

  pub opened : is_some (tally_of (sets_in after) oid) ≡ true
  opened = found_same after oid ∙ ap is_some (sets oid) ∙ rw (same_object_refl oid) refl

  -- each count of the set is as the tally says, and those of others stay
  pub total_set : (other : ObjId) (id : ℕ) → total_in (sets_in after) other id ≡ (if same_object oid other then number_at tally id else total_in (sets_in before) other id)
  total_set other id = part (λ t. number_in t id) (pos 0) other

  pub total_kept : ((id : ℕ) → number_at tally id ≡ total_in (sets_in before) oid id) → (other : ObjId) (id : ℕ) → total_in (sets_in after) other id ≡ total_in (sets_in before) other id
  total_kept same other id = total_set other id ∙ (elim (same_object oid other) as (λ b. same_object oid other ≡ b → (if b then number_at tally id else total_in (sets_in before) other id) ≡ total_in (sets_in before) other id) [
    | true ↦ λ is. same id ∙ ap (λ o. total_in (sets_in before) o id) (same_object-true oid other is)
    | false ↦ λ is. refl
  ] refl)

  pub still_placed : ((id : ℕ) → IsPlaced (sets_in before) oid id → is_some (lookup (is_at (nat_cmp id)) tally.entries) ≡ true)
      → (other : ObjId) (id : ℕ) → IsPlaced (sets_in before) other id → IsPlaced (sets_in after) other id
  still_placed keeps other id was = part (λ t. is_some (lookup (is_at (nat_cmp id)) t)) false other ∙ (elim (same_object oid other) as (λ b. same_object oid other ≡ b
      → (if b then is_some (lookup (is_at (nat_cmp id)) tally.entries) else option_map_or (λ t. is_some (lookup (is_at (nat_cmp id)) t)) (tally_of (sets_in before) other) false) ≡ true) [
        | true ↦ λ is. keeps id (subst (λ o. IsPlaced (sets_in before) o id) (sym (same_object-true oid other is)) was)
        | false ↦ λ is. was
      ] refl)

  pub placed : (id : ℕ) → is_some (lookup (is_at (nat_cmp id)) tally.entries) ≡ true → IsPlaced (sets_in after) oid id
  placed id is = part (λ t. is_some (lookup (is_at (nat_cmp id)) t)) false oid ∙ rw (same_object_refl oid) is

pub none_from : {X : Type 0} (o : Option X) → is_some o ≡ false → None ≡ o
none_from None is = refl
none_from (Some x) is = absurd cc

pub no_place : (sets : Sets) (oid : ObjId) (id : ℕ) → None ≡ lookup (same_object oid) sets → IsPlaced (sets_in sets) oid id → ⊥
no_place sets oid id is placed =
    let none = ap (λ o. option_map_or (λ t. is_some (lookup (is_at (nat_cmp id)) t)) o false) (no_tally sets oid is) in
    let no : false ≡ true = sym none ∙ placed in
    absurd cc

pub place_at : (sets : Sets) (oid : ObjId) (tally : BTreeMap ℕ ℤ) (id : ℕ) → Some tally ≡ lookup (same_object oid) sets → IsPlaced (sets_in sets) oid id
    → is_some (lookup (is_at (nat_cmp id)) tally.entries) ≡ true
place_at sets oid tally id is placed =
    sym (ap (λ o. option_map_or (λ t. is_some (lookup (is_at (nat_cmp id)) t)) o false) (tally_is sets oid tally is)) ∙ placed

-- one number of a set was moved, by one at most
pub total_moved : (before after : Sets) (oid : ObjId) (was tally : BTreeMap ℕ ℤ) → SetsTally before after oid tally → Some was ≡ lookup (same_object oid) before → (id : ℕ) (by : ℤ)
    → ((other : ℕ) → number_at tally other ≡ number_at was other +ℤ (if nat_eq id other then by else pos 0))
    → (other : ObjId) (name : ℕ) → total_in (sets_in after) other name ≡ total_in (sets_in before) other name +ℤ (if same_object oid other && nat_eq id name then by else pos 0)
total_moved before after oid was tally sets is id by moved other name =
    total_set before after oid tally sets other name
    ∙ (elim (same_object oid other) as (λ b. same_object oid other ≡ b
    → (if b then number_at tally name else total_in (sets_in before) other name) ≡ total_in (sets_in before) other name +ℤ (if b && nat_eq id name then by else pos 0)) [
      | true ↦ λ same.
          moved name
          ∙ ap (λ n. n +ℤ (if nat_eq id name then by else pos 0)) (sym (total_at before oid was name is) ∙ ap (λ o. total_in (sets_in before) o name) (same_object-true oid other same))
      | false ↦ λ apart. omega (arith, ints)
    ] refl)

pub moved_within : (taken : ℕ) (old new by : ℤ) (b : Bool) → IsWithin taken old → IsWithin 1 by → new ≡ old +ℤ (if b then by else pos 0) → IsWithin (taken + 1) new
moved_within taken old new by true within step is = (omega (arith, ints, within.0, within.1, step.0, step.1, is), omega (arith, ints, within.0, within.1, step.0, step.1, is))
moved_within taken old new by false within step is = (omega (arith, ints, within.0, within.1, is), omega (arith, ints, within.0, within.1, is))

pub no_open : (sets : Sets) (oid : ObjId) → None ≡ lookup (same_object oid) sets → is_some (tally_of (sets_in sets) oid) ≡ true → ⊥
no_open sets oid is there =
    let none = ap is_some (no_tally sets oid is) in
    let no : false ≡ true = sym none ∙ there in
    absurd cc
