-- A disk as the store sees it. Bytes that a write has put there are safe from a crash only behind a sync; after a fault
-- the disk fails each call until it has settled.
use Rattle.std.specs.Prelude.{◌≡◌, ◌+◌, ◌<◌, ◌≤◌, ℕ, max, Bool, true, List, [], ◌∷◌, ◌++◌, length, take, drop, Option, option_map, is_some}

-- A call of `arm`: how many calls of the device had been made before it, which of those behind it is to fail, counted
-- from 1, and the choice of what a settle then finds.
pub record Arming : Type 0 where
  pub at : ℕ
  pub nth : ℕ
  pub choice : ℕ

-- what the caller asked for
abbrev pub asked : Arming → ℕ × ℕ
asked arming = (arming.nth, arming.choice)

-- what is known of a disk, but for crashes
pub record DiskState : Type 0 where
  -- what a read of the whole disk gives, where the disk tells it
  pub reads : Option (List ℕ)
  pub size : ℕ
  -- a call has failed, and no settle has ended well since
  pub broken : Bool
  pub faults : ℕ
  -- the calls of `arm`, in order, where the disk tells them
  pub arms : Option (List Arming)

-- these arms with one more behind them, where they are told
abbrev pub and_arming : Arming → Option (List Arming) → Option (List Arming)
and_arming arming arms = option_map (λ told. told ++ arming ∷ []) arms

-- the disk armed once more, after so many calls of its device
abbrev pub armed_at : (calls nth choice : ℕ) → DiskState → DiskState
armed_at calls nth choice disk = record disk { arms = and_arming (record { at = calls; nth = nth; choice = choice }) disk.arms }

-- the bytes with others laid over them at a place
abbrev pub laid : ℕ → List ℕ → List ℕ → List ℕ
laid at over bytes = take at bytes ++ over ++ drop (at + length over) bytes

-- the disk with bytes written at a place
abbrev pub written : ℕ → List ℕ → DiskState → DiskState
written at over disk = record disk { reads = option_map (laid at over) disk.reads; size = max disk.size (at + length over) }

-- a call failed: the count of faults rises, the disk is broken, and nothing else is known to change
pub record Breaks (old new : DiskState) : Type 0 where
  pub rises : old.faults < new.faults
  pub same : new ≡ record old { broken = true; faults = new.faults }

-- one of several calls failed
pub record Fails (old new : DiskState) : Type 0 where
  pub rises : old.faults < new.faults
  pub broken : new.broken ≡ true
  pub arms : new.arms ≡ old.arms
  pub tells : is_some new.reads ≡ is_some old.reads
  pub no_smaller : old.size ≤ new.size

-- room was made: no less than before, and at least up to this end and for so many calls
pub record MakesRoom (end calls old_end new_end old_calls new_calls : ℕ) : Type 0 where
  pub reaches : end ≤ new_end
  pub suffices : calls ≤ new_calls
  pub no_nearer : old_end ≤ new_end
  pub no_fewer : old_calls ≤ new_calls

-- a call took the room of so many calls
pub record TakesRoom (used old_end new_end old_calls new_calls : ℕ) : Type 0 where
  pub no_nearer : old_end ≤ new_end
  pub no_fewer : old_calls ≤ new_calls + used
