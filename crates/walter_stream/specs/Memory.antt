-- What a caller sees of streams in memory.
use Rattle.std.specs.Prelude.{◌⊎◌, ◌<◌, ◌≤◌, ℕ, List, length}
use Rattle.walter_faults.specs.Schedules.{Schedule, NextFails}

-- the bytes that are left, and the calls
pub record Input : Type 0 where
  pub left : List ℕ
  pub calls : Schedule

-- the bytes that were written, how many there may be, and the calls
pub record Output : Type 0 where
  pub held : List ℕ
  pub room : ℕ
  pub calls : Schedule

-- the next write of these bytes fails: it is one of those that fail, or no byte fits
abbrev pub NextWriteFails : Output → List ℕ → Type 0
NextWriteFails sink bytes =
    NextFails sink.calls ⊎ ((0 < length bytes) × (sink.room ≤ length sink.held))
