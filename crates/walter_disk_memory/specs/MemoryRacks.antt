-- A rack of disks in memory, as its callers see it.
use Rattle.std.specs.Prelude.{◌≡◌, ℕ, false, List, [], map, slice_index_or, Some, Vec}
use Rattle.std.specs.declared.alloc.Global.{Global}
use Rattle.walter_disk.specs.Disks.{DiskState}
use Rattle.walter_disk_memory.specs.MemoryDisks.{MemoryState, holding, known_of}
use Rattle.walter_faults.specs.Schedules.{Schedule, planned}

pub record RackState : Type 0 where
  -- what the disks of the sites hold, from site 0 on
  pub contents : List (List ℕ)
  -- how many disks were taken
  pub taken : ℕ
  -- the disks that were given back, each with its site
  pub given : List (ℕ × MemoryState)
  -- the disks that it was handed, kept or lost, each with its site
  pub handed : List (ℕ × MemoryState)
  -- how many more can be given back without memory
  pub room : ℕ
  pub schedule : Schedule

abbrev pub bytes_of : Vec ℕ Global → List ℕ
bytes_of bytes = bytes.items

abbrev pub contents_of : List (Vec ℕ Global) → List (List ℕ)
contents_of contents = map bytes_of contents

-- the disk of a site, the same in each folder: empty behind the last content
abbrev pub disk_of : List (List ℕ) → ℕ → MemoryState
disk_of contents site = holding (slice_index_or contents site [])

-- a rack that holds these bytes, with this room, of which nothing was asked
abbrev pub rack_of : List (List ℕ) → ℕ → RackState
rack_of contents room = record {
  contents = contents;
  taken = 0;
  given = [];
  handed = [];
  room = room;
  schedule = planned [];
}

-- what a disk without bytes tells that no call has failed on and that has no arm
abbrev pub no_bytes : DiskState
no_bytes = record { reads = Some []; size = 0; broken = false; faults = 0; arms = Some [] }

-- each disk that it hands out tells that
abbrev pub HandsOutNoBytes : RackState → Type 0
HandsOutNoBytes rack = (site : ℕ) → known_of (disk_of rack.contents site) ≡ no_bytes

-- so many calls don't fail: the room without contents and planned faults
abbrev pub unfailing_within : List (List ℕ) → List ℕ → ℕ → ℕ
unfailing_within [] [] room = room
unfailing_within contents failing room = 0

abbrev pub unfailing_of : RackState → ℕ
unfailing_of rack = unfailing_within rack.contents rack.schedule.failing rack.room
