-- Moves laid over the counts of a set, id by id.
use Rattle.std.specs.Prelude.{◌≡◌, ◌≢◌, ◌<◌, ◌≤◌, ◌+◌, ◌+ℤ◌, ◌↔◌, ℕ, ℤ, pos, List, [], ◌∷◌, AllPairs, Contains}
use Rattle.walter_cset.specs.Tallies.{number_in}

-- the ids rise from a number on
abbrev pub IsRisingFrom : ℕ → List (ℕ × ℤ) → Type 0
IsRisingFrom from [] = Unit {0}
IsRisingFrom from (e ∷ es) = (from ≤ e.0) × IsRisingFrom (e.0 + 1) es

-- of the ids below a number those whose number isn't 0, by rising id
pub record AreNumbersBelow (end : ℕ) (number : ℕ → ℤ) (counts : List (ℕ × ℤ)) : Type 0 where
  pub rising : AllPairs (λ a b. a.0 < b.0) counts
  pub held : (id : ℕ) (n : ℤ) → Contains counts (id, n) ↔ ((id < end) × (number id ≡ n) × (n ≢ pos 0))

-- counts so far, where these of the base and of the moves are left
pub record AreLaid (number : ℕ → ℤ) (base moves counts : List (ℕ × ℤ)) : Type 0 where
  pub end : ℕ
  pub laid : AreNumbersBelow end number counts
  pub of_base : IsRisingFrom end base
  pub of_moves : IsRisingFrom end moves
  pub left : (id : ℕ) → end ≤ id → number id ≡ number_in base id +ℤ number_in moves id

-- what is left of the moves behind an id, and the number of that id
pub record IsBehind (id : ℕ) (moves : List (ℕ × ℤ)) (number : ℤ) (rest : List (ℕ × ℤ)) : Type 0 where
  pub here : number_in moves id ≡ number
  pub rising : IsRisingFrom (id + 1) rest
  pub same : (other : ℕ) → id < other → number_in moves other ≡ number_in rest other
