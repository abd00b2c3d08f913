-- A disk over a file, as its callers see it. What the file holds no one can know.
use Rattle.std.specs.Prelude.{ℕ, ◌+◌, ◌-◌, ◌^◌, Bool, true, false, List, None}
use Rattle.walter_disk.specs.Disks.{DiskState}

pub record FileState : Type 0 where
  -- how many bytes the file had when it was asked last, or by the writes since
  pub size : ℕ
  -- a call has failed, and no settle has ended well since
  pub broken : Bool
  pub faults : ℕ
  -- how many reads, writes and syncs were made
  pub device_calls : ℕ

-- a disk of so many bytes on which no call was made
abbrev pub fresh_disk : ℕ → FileState
fresh_disk size = record { size = size; broken = false; faults = 0; device_calls = 0 }

-- what the trait tells of it
abbrev pub known_of : FileState → DiskState
known_of disk = record { reads = None; size = disk.size; broken = disk.broken; faults = disk.faults; arms = None }

-- no call takes memory, so there is always room, for as much as can be asked for
abbrev pub room : ℕ
room = 2 ^ 64 - 1

-- a crash may leave anything
abbrev pub may_leave_of : FileState → List ℕ → Type 0
may_leave_of disk image = Unit {0}

-- so no moment is told from another
abbrev pub moment_of : FileState → ℕ
moment_of disk = 0

abbrev pub left_since_of : FileState → ℕ → List ℕ → Type 0
left_since_of disk t image = Unit {0}

-- the disk after one more read, write or sync, and after one that failed
abbrev pub after_call : FileState → FileState
after_call disk = record disk { device_calls = disk.device_calls + 1 }

abbrev pub after_fault : FileState → FileState
after_fault disk = record disk { broken = true; faults = disk.faults + 1 }
