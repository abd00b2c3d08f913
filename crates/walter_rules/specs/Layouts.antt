-- How a site's journal is laid out on its disk, and how many bytes are left in it (docs/FORMATS.md, "Journal" and "Two
-- areas").
use Rattle.std.specs.Prelude.{ℕ, ◌+◌, ◌-◌, ◌*◌, ◌/◌, ◌≤◌, Bool, true, false, List, [], ◌∷◌, reverse, sum_by}
use Rattle.walter_base.specs.declared.format.Format.{Format}
use Rattle.walter_base.specs.declared.format.Format.TheVariants.{First, Second}
use Rattle.walter_base.specs.declared.message.Record.{Record}
use Rattle.walter_base.specs.declared.message.Record.TheVariants.{Boot, Own, Got, SlowBegin}
use Rattle.walter_base.specs.Sizes.{size_of_record}
use Rattle.walter_rules.specs.Learning.{format_behind}
use Rattle.walter_rules.specs.Standing.{Standing}

-- in one area; or in two, one of which is live, each with half of what a header and a switch leave, and with packs for
-- so many sites; the disk has at most so many bytes, and a header that names a format
pub data Layout : Type 0 where
  one_area : (capacity : ℕ) (header : Format) → Layout
  two_areas : (capacity sites : ℕ) (header : Format) → Layout

-- the format that the header names
abbrev pub header_of : Layout → Format
header_of (one_area capacity header) = header
header_of (two_areas capacity sites header) = header

-- the format in force: the header's, and the second where a record says so
abbrev pub in_force : Format → Format → Format
in_force First told = told
in_force Second told = Second

-- a record, and the format in force at its place
abbrev pub Placed : Type 0
Placed = Format × Record

-- records, each with the format in force at its place, where this one is in force at the first
abbrev pub placed : Format → List Record → List Placed
placed format [] = []
placed format (rec ∷ records) = (format, rec) ∷ placed (format_behind rec format) records

-- the format in force behind records, where this one is in force in front of them
abbrev pub format_at : Format → List Record → Format
format_at format [] = format
format_at format (rec ∷ records) = format_at (format_behind rec format) records

-- how many bytes a record needs in a journal: a gate and a length stand with it
abbrev pub need_of : Format → Record → ℕ
need_of format rec = 5 + size_of_record format rec

abbrev pub need_there : Placed → ℕ
need_there it = need_of it.0 it.1

-- how many bytes of a record's start stand for sites that there aren't, where there are so many; in the second format
-- none do
abbrev pub spare_in : ℕ → Placed → ℕ
spare_in sites (First, Own seq tx) = 64 - 8 * sites
spare_in sites (First, Got site seq tx) = 64 - 8 * sites
spare_in sites (First, SlowBegin slow tx) = 64 - 8 * sites
spare_in sites it = 0

-- how many bytes a record needs in a pack: a mark and a length stand with it, and those bytes are left out
abbrev pub packed_size : ℕ → Placed → ℕ
packed_size sites it = need_there it - spare_in sites it

-- Of records, the newest of which comes first: those before the last Boot, which the restart that wrote it has packed;
-- and those from that Boot on.
abbrev pub before_boot : List Placed → List Placed
before_boot [] = []
before_boot ((format, Boot epoch) ∷ older) = older
before_boot (it ∷ older) = before_boot older

abbrev pub since_boot : List Placed → List Placed
since_boot [] = []
since_boot ((format, Boot epoch) ∷ older) = (format, Boot epoch) ∷ []
since_boot (it ∷ older) = it ∷ since_boot older

-- how many bytes of an area are in use, behind a pack's length and a closed gate: a site that is up has packed what
-- it had before; one that is down packs all as it restarts
abbrev pub packed_use : ℕ → Bool → List Placed → ℕ
packed_use sites true all =
    sum_by (packed_size sites) (before_boot (reverse all)) + sum_by need_there (since_boot (reverse all))
packed_use sites false all = sum_by (packed_size sites) all

-- how many bytes are left in the journal of a site that stands so
abbrev pub left_behind : Layout → Standing → ℕ
left_behind (one_area capacity header) S = capacity - (9 + sum_by need_there (placed header S.records))
left_behind (two_areas capacity sites header) S =
    (capacity - 9) / 2 - (9 + packed_use sites S.up (placed header S.records))

-- how many bytes the record needs there
abbrev pub need_in : Layout → Standing → Record → ℕ
need_in layout S rec = need_of (in_force (header_of layout) S.knows.format) rec

abbrev pub FitsIn : Layout → Standing → Record → Type 0
FitsIn layout S rec = need_in layout S rec ≤ left_behind layout S
