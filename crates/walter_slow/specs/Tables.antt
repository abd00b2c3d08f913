-- The slow commits of a site that are kept, by their numbers.
use Rattle.std.specs.Prelude.{◌≡◌, ◌<◌, ◌≤◌, ℕ, nat_eq, Bool, false, List, [], ◌∷◌, map, slice_get, Option}
use Rattle.std.specs.List.{list_any}
use Rattle.std.specs.Map.{lookup}
use Rattle.std.specs.Option.{option_map_or}
use Rattle.walter_slow.specs.Kept.{Kept, is_busy}

-- the last number, and by their numbers the slow commits that are kept; the numbers of those that are busy; for how
-- many more of both, and in the next for how many sites that are asked, there is room without memory
pub record Table : Type 0 where
  pub last : ℕ
  pub commits : List (ℕ × Kept)
  pub busy : List ℕ
  pub places : ℕ
  pub spots : ℕ
  pub seats : ℕ

abbrev pub commit_of : Table → ℕ → Option Kept
commit_of table slow = lookup (nat_eq slow) table.commits

-- these are the numbers of those that are busy
abbrev pub AreBusy : List (ℕ × Kept) → List ℕ → Type 0
AreBusy commits busy = (n : ℕ) → list_any (nat_eq n) busy ≡ is_busy (lookup (nat_eq n) commits)

-- a slow commit that asks so many sites can begin without memory
abbrev pub CanBegin : Table → ℕ → Type 0
CanBegin table asked = (0 < table.places) × (0 < table.spots) × (asked ≤ table.seats)

-- the numbers of the slow commits that are kept, in their order
abbrev pub numbers_of : Table → List ℕ
numbers_of table = map (λ e. e.0) table.commits

-- whether this is the number at a place in their order
abbrev pub is_number_at : Table → ℕ → ℕ → Bool
is_number_at table place n = option_map_or (nat_eq n) (slice_get (numbers_of table) place) false

-- numbers that rise, above the first and up to the last
abbrev pub RiseBetween : ℕ → ℕ → List ℕ → Type 0
RiseBetween first last [] = first ≤ last
RiseBetween first last (n ∷ ns) = (first < n) × RiseBetween n last ns
