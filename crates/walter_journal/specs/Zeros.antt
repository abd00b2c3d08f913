-- What zeros behind the last byte of a disk leave of it (docs/FORMATS.md, "Two areas").
use Rattle.std.specs.Prelude.{◌≡◌, ◌+◌, ◌-◌, ◌/◌, ◌≤◌, ℕ, max, List, ◌++◌, length, take, replicate, option_map}
use Rattle.walter_disk.specs.Disks.{DiskState}

abbrev pub zeros : ℕ → List ℕ
zeros count = replicate count 0

-- the bytes, and behind them zeros up to a place
abbrev pub filled : ℕ → List ℕ → List ℕ
filled to bytes = bytes ++ zeros (to - length bytes)

-- the disk with zeros behind its bytes up to a place
abbrev pub filled_disk : ℕ → DiskState → DiskState
filled_disk to disk = record disk { reads = option_map (filled to) disk.reads; size = max disk.size to }

-- in how many writes of at most 65,536 bytes so many bytes go
abbrev pub writes_of : ℕ → ℕ
writes_of count = (count + 65535) / 65536

-- the new image begins as the old one does up to a place, and is no longer than it or than up to this end
pub record Grows (place end : ℕ) (old new : List ℕ) : Type 0 where
  pub front : take place new ≡ take place old
  pub size : length new ≤ max (length old) end

-- an image that has grown so from one of these
abbrev pub HasGrown : (place end : ℕ) → (List ℕ → Type 0) → List ℕ → Type 0
HasGrown place end images image = (from : List ℕ) × images from × Grows place end from image
