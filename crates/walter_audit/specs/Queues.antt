-- How the items of a site are found: the starts behind each of its fronts, and its records' own (docs/AUDIT.md, "The
-- order").
use Rattle.std.specs.Prelude.{◌≡◌, ◌<◌, ℕ, List, [], ◌++◌, flat_map, slice_get, Some}
use Rattle.std.specs.Global.{Vec}
use Rattle.std.specs.List.{range_with_len}
use Rattle.std.specs.Option.{option_map_or}
use Rattle.walter_base.specs.declared.message.Record.{Record}
use Rattle.walter_base.specs.declared.message.Record.TheVariants.{Own}
use Rattle.walter_base.specs.Vectors.{Covers}
use Rattle.walter_audit.specs.Orders.{Item, Starts, item_of}

-- the counts at this place are the start, and none before covers it
pub record IsFrontOf (fronts : List (List ℕ)) (start : List ℕ) (p : ℕ) : Type 0 where
  pub front : List ℕ
  pub at : slice_get fronts p ≡ Some front
  pub within : Covers front start
  pub covered : Covers start front
  pub before : (q : ℕ) (v : List ℕ) → q < p → slice_get fronts q ≡ Some v → ¬ Covers v start

-- the start of an own commit's transaction stands behind this front, and is this item
abbrev pub StandsAt : List (List ℕ) → Record → ℕ → Type 0
StandsAt fronts (Own seq tx) p = IsFrontOf fronts tx.start p
StandsAt fronts rec p = ⊥

abbrev pub IsStartAt : List (List ℕ) → Record → ℕ → Item → Type 0
IsStartAt fronts (Own seq tx) p item = IsFrontOf fronts tx.start p × (item ≡ Starts p tx)
IsStartAt fronts rec p item = ⊥

-- the list at a place
abbrev pub list_at : List (Vec Item) → ℕ → List Item
list_at lists p = option_map_or (λ list. list.items) (slice_get lists p) []

-- behind each of so many fronts its starts, and then the item of the next record
abbrev pub joined_at : List (Vec Item) → List Record → ℕ → List Item
joined_at starts records p = list_at starts p ++ item_of p (slice_get records p)

abbrev pub joined : List (Vec Item) → List Record → ℕ → List Item
joined starts records many = flat_map (joined_at starts records) (range_with_len 0 many)
