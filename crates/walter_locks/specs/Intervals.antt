-- Numbers, kept as intervals.
use Rattle.std.specs.Prelude.{◌≤◌, ◌+◌, ℕ, nat_le, Bool, ◌&&◌, List, [], ◌∷◌}
use Rattle.std.specs.List.{list_any}
use Rattle.walter_locks.specs.declared.interval.Interval.{Interval}

abbrev pub is_in : ℕ → Interval → Bool
is_in n interval = nat_le interval.first n && nat_le n interval.last

-- the number is in one of the intervals
abbrev pub is_among : ℕ → List Interval → Bool
is_among n intervals = list_any (is_in n) intervals

-- intervals that rise from a number on, and don't touch: between two of them a number is left out
abbrev pub RiseApart : ℕ → List Interval → Type 0
RiseApart from [] = Unit {0}
RiseApart from (interval ∷ intervals) = (from ≤ interval.first) × (interval.first ≤ interval.last) × RiseApart (interval.last + 2) intervals

-- the intervals, and how many more of them there is room for without memory
pub record Numbers : Type 0 where
  pub intervals : List Interval
  pub room : ℕ
