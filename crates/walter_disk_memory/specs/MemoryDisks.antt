-- A disk in memory, as its callers see it: what it held at first, its calls since, which calls fail, and its room.
use Rattle.std.specs.Prelude.{◌-◌, ℕ, max, List, [], ◌∷◌, ◌++◌, length, Some, is_some}
use Rattle.walter_disk.specs.Disks.{DiskState}
use Rattle.walter_disk.specs.Images.{Elapses}
use Rattle.walter_disk_memory.specs.Contents.{Call, Content, at_rest, replayed, MayLeave, MightHaveLeft}
use Rattle.walter_disk_memory.specs.Stops.{Stops, unarmed, passed, failed, mended, FailOnlyIfArmed}

pub record MemoryState : Type 0 where
  pub first : List ℕ
  -- its writes, syncs and settles, in order
  pub calls : List Call
  pub stops : Stops
  pub room_end : ℕ
  pub room_calls : ℕ

-- a disk of these bytes, all safe, without arms
abbrev pub holding : List ℕ → MemoryState
holding bytes = record { first = bytes; calls = []; stops = unarmed; room_end = length bytes; room_calls = 0 }

-- what is on it now
abbrev pub content_of : MemoryState → Content
content_of disk = replayed disk.calls (at_rest disk.first)

-- what the trait tells of it
abbrev pub known_of : MemoryState → DiskState
known_of disk = record {
  reads = Some (content_of disk).reads;
  size = length (content_of disk).reads;
  broken = is_some disk.stops.came;
  faults = disk.stops.faults;
  arms = Some disk.stops.arms;
}

-- the moment, what a crash at it may leave, and what one since an earlier moment might have left
abbrev pub moment_of : MemoryState → ℕ
moment_of disk = length disk.calls

abbrev pub may_leave_of : MemoryState → List ℕ → Type 0
may_leave_of disk = MayLeave (content_of disk)

abbrev pub left_since_of : MemoryState → ℕ → List ℕ → Type 0
left_since_of disk = MightHaveLeft disk.first disk.calls

-- time has gone on from the old disk to the new one
abbrev pub GoesOn : (old new : MemoryState) → Type 0
GoesOn old new = Elapses (moment_of old) (moment_of new) (left_since_of old) (left_since_of new) (may_leave_of new)

-- the disk after a call that it keeps, which takes the room of one
abbrev pub called : Call → MemoryState → MemoryState
called call disk = record disk { calls = disk.calls ++ call ∷ []; room_calls = disk.room_calls - 1 }

-- the disk after a call that passed, after one that failed, and as a settle ends its stop
abbrev pub after_pass : MemoryState → MemoryState
after_pass disk = record disk { stops = passed disk.stops }

abbrev pub after_fault : MemoryState → MemoryState
after_fault disk = record disk { stops = failed disk.stops }

abbrev pub after_mend : MemoryState → MemoryState
after_mend disk = record disk { stops = mended disk.stops }

-- the disk with room up to an end and for so many calls
abbrev pub with_room : ℕ → ℕ → MemoryState → MemoryState
with_room end calls disk = record disk { room_end = max disk.room_end end; room_calls = max disk.room_calls calls }

-- without an arm no call of it has failed, and none is to fail
abbrev pub FailsOnlyIfArmed : MemoryState → Type 0
FailsOnlyIfArmed disk = FailOnlyIfArmed disk.stops
