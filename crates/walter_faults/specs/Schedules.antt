-- Calls that fail as a test has planned it.
use Rattle.std.specs.Prelude.{◌≡◌, ℕ, ◌+◌, ◌-◌, ◌^◌, min, List, Contains}

-- the numbers of the calls that fail, counted from 1, how many calls were made, and how many of them failed
pub record Schedule : Type 0 where
  pub failing : List ℕ
  pub made : ℕ
  pub faults : ℕ

-- no call was made yet
abbrev pub planned : List ℕ → Schedule
planned failing = record { failing = failing; made = 0; faults = 0 }

-- the next call is one of those that fail
abbrev pub NextFails : Schedule → Type 0
NextFails schedule = Contains schedule.failing (schedule.made + 1)

-- one more call was made; the number stays at the largest `u64`, behind which no call is listed
pub record AddsCall (old new : Schedule) : Type 0 where
  pub failing : new.failing ≡ old.failing
  pub made : new.made ≡ min (old.made + 1) (2 ^ 64 - 1)
