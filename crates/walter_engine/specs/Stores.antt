-- Where the records of a site lie.
use Rattle.std.specs.Prelude.{◌≡◌, ◌<◌, ℕ, Bool, List, Option, Some, None, IsSome, if◌then◌else◌}
use Rattle.walter_disk.specs.declared.disk.Disk.{Ghosts}
use Rattle.walter_engine.specs.Contents.{MayHaveRecords, AreSpelled, spelled}
use Rattle.walter_base.specs.declared.format.Format.{Format}
use Rattle.walter_checkpoint.specs.Areas.{Shape}
use Rattle.walter_checkpoint.specs.Books.{disk_of, shape_of, left_of, StandsFor}
use Rattle.walter_checkpoint.specs.declared.book.Book.{Book}
use Rattle.walter_checkpoint.specs.declared.book.Live.{Live}
use Rattle.walter_checkpoint.specs.declared.book.Live.TheVariants.{Whole, A, B}
use Rattle.walter_machine.specs.declared.machine.Machine.{Machine}
use Rattle.walter_machine.specs.Machines.{HasStanding, catalog_in, is_up}
use Rattle.walter_rules.specs.Layouts.{Layout, one_area, two_areas, header_of, left_behind}
use Rattle.walter_rules.specs.Standing.{Standing}

-- the disk, under a book or bare
abbrev pub disk_under : {D : Type 0} {g : Ghosts D} → Option (Book D g) → Option D → Option D
disk_under None bare = bare
disk_under (Some book) bare = Some (disk_of book)

-- the book of a site that is up
abbrev pub book_if : {D : Type 0} {g : Ghosts D} → (up : Bool) → Book D g → Option (Book D g)
book_if up book = if up then Some book else None

-- the bare disk of one that is down
abbrev pub disk_if : {D : Type 0} {g : Ghosts D} → (up : Bool) → Book D g → Option D
disk_if up book = if up then None else Some (disk_of book)

-- the format that the header of a book names; where there is none, the one that is asked for
abbrev pub header_under : {D : Type 0} {g : Ghosts D} → Option (Book D g) → Format → Format
header_under None asked = asked
header_under (Some book) asked = (shape_of book).header

-- how a book is laid out
abbrev pub layout_by : Shape → Live → Layout
layout_by shape Whole = one_area shape.capacity shape.header
layout_by shape A = two_areas shape.capacity shape.sites shape.header
layout_by shape B = two_areas shape.capacity shape.sites shape.header

abbrev pub layout_of : {D : Type 0} {g : Ghosts D} → Book D g → Layout
layout_of book = layout_by (shape_of book) book.live

-- it is laid out so, and has the records of a site that stands so, which leave so many bytes
pub record IsKept {D : Type 0} {g : Ghosts D} (layout : Layout) (S : Standing) (book : Book D g) : Type 0 where
  pub laid : layout_of book ≡ layout
  pub stands : StandsFor book (spelled (header_of layout) S.records)
  pub left : left_of book ≡ left_behind layout S

-- the disk of a site that is down tells what it holds, and each crash leaves the site's records
pub record IsOnDisk {D : Type 0} (g : Ghosts D) (layout : Layout) (S : Standing) (disk : D) : Type 0 where
  pub told : IsSome (g.known disk).reads
  pub begun : 0 < (g.known disk).size
  pub images : (image : List ℕ) → g.may_leave disk image → MayHaveRecords layout S.records S.flight image

-- the records of a site that stands so lie in its book, or on its bare disk
abbrev pub IsStored : {D : Type 0} {g : Ghosts D} → Layout → Standing → Option (Book D g) → Option D → Type 0
IsStored layout S (Some book) bare = IsKept layout S book
IsStored {g = g} layout S None (Some disk) = IsOnDisk g layout S disk
IsStored layout S None None = ⊥

-- behind an event: the machine stands so, each record has its spelling, and the records lie in the book of a site that is
-- up, or on the disk under it of one that is down
pub record IsLeft {D : Type 0} {g : Ghosts D} (layout : Layout) (m : Machine) (S : Standing) (book : Book D g) : Type 0 where
  pub machine : HasStanding m S
  pub spellings : AreSpelled (header_of layout) (catalog_in m).sites S
  pub stored : IsStored layout S (book_if (is_up m) book) (disk_if (is_up m) book)
