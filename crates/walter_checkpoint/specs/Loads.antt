-- What a load of a book finds and leaves (docs/FORMATS.md, "Two areas").
use Rattle.std.specs.Prelude.{◌≡◌, ◌≢◌, ◌==◌, ◌⊎◌, ◌+◌, ◌≤◌, if◌then◌else◌, false, ℕ, List, [], ◌∷◌, ◌++◌, length, Result, Ok, Err, IfSome}
use Rattle.walter_base.specs.Sizes.{most_in}
use Rattle.walter_disk.specs.Disks.{DiskState}
use Rattle.walter_disk.specs.Images.{IsDurable}
use Rattle.walter_disk.specs.declared.disk.Disk.{Ghosts}
use Rattle.walter_journal.specs.Layout.{header_in}
use Rattle.walter_journal.specs.Zeros.{zeros, writes_of}
use Rattle.walter_journal.specs.declared.fault.JournalFault.{JournalFault}
use Rattle.walter_checkpoint.specs.Areas.{Shape, shape_by, area_size, header_of_two}
use Rattle.walter_checkpoint.specs.Books.{disk_of, IsRead, HasRoomOn}
use Rattle.walter_checkpoint.specs.Packs.{renewed_by}
use Rattle.walter_checkpoint.specs.declared.book.Book.{Book}
use Rattle.walter_checkpoint.specs.declared.book.Live.TheVariants.{Whole}
use Rattle.walter_checkpoint.specs.declared.loading.Stock.{Stock}
use Rattle.walter_checkpoint.specs.declared.reading.Found.{Found}

-- one area or two, and for two the capacity is great enough
abbrev pub IsAreas : ℕ → ℕ → Type 0
IsAreas areas capacity = (areas ≡ 1) ⊎ ((areas ≡ 2) × (47 ≤ capacity))

-- the bytes of a new book
abbrev pub new_bytes : Shape → ℕ → List ℕ
new_bytes shape areas =
    if areas == 2 then header_of_two shape.header ++ zeros (1 + area_size shape) else header_in shape.header ++ 0 ∷ []

-- how many these are
abbrev pub new_size : Shape → ℕ → ℕ
new_size shape areas = if areas == 2 then 9 + area_size shape else 9

-- how many reads, writes and syncs a load of a disk of this size makes
abbrev pub calls_of_load : Shape → ℕ → ℕ → ℕ
calls_of_load shape areas size = if size == 0 then writes_of (new_size shape areas) + 1 else 1

-- the disk behind a load, in the book or beside the fault
abbrev pub disk_behind : {D : Type 0} {g : Ghosts D} → Result (Book D g × List (List ℕ)) (D × JournalFault) → D
disk_behind (Ok loaded) = disk_of loaded.0
disk_behind (Err left) = left.0

-- how what was found lies, where it may reach so far and is of so many sites
abbrev pub found_shape : (capacity sites : ℕ) → Found → Shape
found_shape capacity sites found = shape_by capacity sites found.format

-- what was found is what the disk has, where it tells, and each crash leaves it; its format has places for the sites
pub record IsOpened (shape : Shape) (found : Found) (images : List ℕ → Type 0) (disk : DiskState) : Type 0 where
  pub places : shape.sites ≤ most_in shape.header
  pub bytes : List ℕ
  pub read : IsRead shape found.live bytes found.bodies found.end
  pub told : IfSome disk.reads (λ told. bytes ≡ told)
  pub size : length bytes ≤ disk.size
  pub durable : IsDurable disk.reads images
  pub whole : disk.broken ≡ false

-- what `pack` writes is ready, and there is room for it
pub record IsStocked {D : Type 0} (g : Ghosts D) (disk : D) (shape : Shape) (found : Found)
    (stock : Stock) : Type 0 where
  pub ready : found.live ≢ Whole → stock.renewal.items ≡ renewed_by shape.sites found.bodies
  pub room :
      found.live ≢ Whole → HasRoomOn g disk shape found.live (length stock.renewal.items) stock.zeros.items
