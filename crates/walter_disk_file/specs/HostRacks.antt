-- A rack of disks in memory or in a folder, as its callers see it.
use Rattle.std.specs.Prelude.{ℕ, List, [], Option, None, Some}
use Rattle.walter_disk_file.specs.HostDisks.{empty_disk}
use Rattle.walter_disk_file.specs.declared.host_disk.HostDisk.{HostDisk}

pub record RackState : Type 0 where
  -- the path of the folder whose files the disks are, if they are files
  pub folder : Option (List ℕ)
  -- how many disks were taken
  pub taken : ℕ
  -- the disks that were given back, each with its site
  pub given : List (ℕ × HostDisk)
  -- the disks that it was handed, kept or lost, each with its site
  pub handed : List (ℕ × HostDisk)
  -- how many more can be given back without memory
  pub room : ℕ
  pub faults : ℕ

-- a rack with this room, of which nothing was asked
abbrev pub fresh_rack : Option (List ℕ) → ℕ → RackState
fresh_rack folder room = record {
  folder = folder;
  taken = 0;
  given = [];
  handed = [];
  room = room;
  faults = 0;
}

-- The disk that is taken for a folder and a site: in memory an empty one, and of a file no one can know.
abbrev pub told_of : Option (List ℕ) → Option (Option (List ℕ) → ℕ → HostDisk)
told_of None = Some (λ dir site. empty_disk)
told_of (Some folder) = None

abbrev pub disks_of : RackState → Option (Option (List ℕ) → ℕ → HostDisk)
disks_of rack = told_of rack.folder

-- So many calls don't fail: in memory the room, and none where a file is to be opened.
abbrev pub unfailing_within : Option (List ℕ) → ℕ → ℕ
unfailing_within None room = room
unfailing_within (Some folder) room = 0

abbrev pub unfailing_of : RackState → ℕ
unfailing_of rack = unfailing_within rack.folder rack.room
