-- How a number is put to intervals.
use Rattle.std.specs.Prelude.{◌+◌, ◌++◌, ℕ, nat_eq, nat_lt, min, max, Bool, List, [], ◌∷◌, take, drop, if◌then◌else◌}
use Rattle.walter_locks.specs.declared.interval.Interval.{Interval}

-- a number is left out between the interval and this number
abbrev pub is_before : ℕ → Interval → Bool
is_before n interval = nat_lt (interval.last + 1) n

abbrev pub interval_to : ℕ → ℕ → Interval
interval_to first last = record { first = first; last = last }

-- the first of the intervals and the second are one, where the second begins at the next number
abbrev pub joined : List Interval → List Interval
joined [] = []
joined (interval ∷ []) = interval ∷ []
joined (interval ∷ next ∷ intervals) =
    if nat_eq (interval.last + 1) next.first then interval_to interval.first next.last ∷ intervals else interval ∷ next ∷ intervals

abbrev pub joined_at : ℕ → List Interval → List Interval
joined_at place intervals = take place intervals ++ joined (drop place intervals)

-- a number that the first of the intervals isn't before: it makes an interval of its own, or widens the first
abbrev pub put_first : ℕ → List Interval → List Interval
put_first n [] = interval_to n n ∷ []
put_first n (interval ∷ intervals) =
    if nat_lt (n + 1) interval.first then interval_to n n ∷ interval ∷ intervals
    else joined (interval_to (min interval.first n) (max interval.last n) ∷ intervals)

abbrev pub put_at : ℕ → ℕ → List Interval → List Interval
put_at n place intervals = take place intervals ++ put_first n (drop place intervals)
