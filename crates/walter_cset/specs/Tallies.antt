-- A number for each id, of which almost all are 0.
use Rattle.std.specs.Prelude.{◌≡◌, ◌≢◌, ◌<◌, ◌^◌, ◌↔◌, ◌<ℤ◌, ◌-ℤ◌, ◌-◌, ℕ, ℤ, pos, List, AllPairs, Contains}
use Rattle.std.specs.Option.{unwrap_or}
use Rattle.std.specs.Ordering.{nat_cmp}
use Rattle.std.specs.Map.{lookup}
use Rattle.std.specs.BTreeMap.{BTreeMap, is_at}

-- the number of an id, 0 where there is none
abbrev pub number_in : List (ℕ × ℤ) → ℕ → ℤ
number_in entries id = unwrap_or (lookup (is_at (nat_cmp id)) entries) (pos 0)

abbrev pub number_at : BTreeMap ℕ ℤ → ℕ → ℤ
number_at tally id = number_in tally.entries id

-- each number can rise or fall by one
abbrev pub CanTally : BTreeMap ℕ ℤ → Type 0
CanTally tally = (id : ℕ) → ((pos 0 -ℤ pos (2 ^ 63)) <ℤ number_at tally id) × (number_at tally id <ℤ pos (2 ^ 63 - 1))

-- the ids with a number other than 0, by rising id
pub record AreNumbers (number : ℕ → ℤ) (counts : List (ℕ × ℤ)) : Type 0 where
  pub rising : AllPairs (λ a b. a.0 < b.0) counts
  pub held : (id : ℕ) (n : ℤ) → Contains counts (id, n) ↔ ((number id ≡ n) × (n ≢ pos 0))
