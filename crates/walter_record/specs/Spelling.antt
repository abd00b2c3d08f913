-- How a record of a journal is spelled, and which records have a spelling (docs/FORMATS.md, "Record").
use Rattle.std.specs.Prelude.{◌≡◌, ◌<◌, ◌^◌, ℕ, List, ◌++◌, length, All, ◌≤◌}
use Rattle.walter_base.specs.declared.format.Format.{Format}
use Rattle.walter_base.specs.Sizes.{most_in, CanBeRecorded}
use Rattle.walter_base.specs.declared.message.Record.{Record}
use Rattle.walter_base.specs.declared.message.Record.TheVariants.{Boot, Own, Got, Seen, Prepared, Released, SlowBegin, SlowEnd, Marks, Format as FormatRecord}
use Rattle.walter_base.specs.declared.names.SiteId.{SiteId}
use Rattle.walter_base.specs.declared.names.Version.{Version}
use Rattle.walter_fields.specs.Spellings.{number_spelled}
use Rattle.walter_names.specs.Names.{tid_spelled, version_spelled, IsObject, IsTid, IsVersion}
use Rattle.walter_txcode.specs.Spelling.{spelling, objects_spelled, IsInRange}

-- a site and a number are spelled as a version
abbrev pub as_version : SiteId → ℕ → Version
as_version site number = record { site = site; seq = number }

abbrev pub record_spelled : Format → Record → List ℕ
record_spelled format (Boot epoch) = number_spelled 1 1 ++ number_spelled 4 epoch
record_spelled format (Own seq tx) = number_spelled 1 2 ++ (number_spelled 8 seq ++ spelling format tx)
record_spelled format (Got site seq tx) = number_spelled 1 3 ++ (version_spelled (as_version site seq) ++ spelling format tx)
record_spelled format (Seen site seq) = number_spelled 1 4 ++ version_spelled (as_version site seq)
record_spelled format (Prepared site slow tid objects) =
    number_spelled 1 5 ++ (version_spelled (as_version site slow) ++ (tid_spelled tid ++ objects_spelled objects))
record_spelled format (Released site slow) = number_spelled 1 6 ++ version_spelled (as_version site slow)
record_spelled format (SlowBegin slow tx) = number_spelled 1 7 ++ (number_spelled 8 slow ++ spelling format tx)
record_spelled format (SlowEnd slow) = number_spelled 1 8 ++ number_spelled 8 slow
record_spelled format (Marks durable visible) = number_spelled 1 9 ++ (number_spelled 8 durable ++ number_spelled 8 visible)
record_spelled format FormatRecord = number_spelled 1 10 ++ number_spelled 1 2

-- the numbers are in the ranges of their fields
abbrev pub AreInRange : Record → Type 0
AreInRange (Boot epoch) = epoch < 2 ^ 32
AreInRange (Own seq tx) = (seq < 2 ^ 64) × IsInRange tx
AreInRange (Got site seq tx) = IsVersion (as_version site seq) × IsInRange tx
AreInRange (Seen site seq) = IsVersion (as_version site seq)
AreInRange (Prepared site slow tid objects) = IsVersion (as_version site slow) × IsTid tid × All IsObject objects
AreInRange (Released site slow) = IsVersion (as_version site slow)
AreInRange (SlowBegin slow tx) = (slow < 2 ^ 64) × IsInRange tx
AreInRange (SlowEnd slow) = slow < 2 ^ 64
AreInRange (Marks durable visible) = (durable < 2 ^ 64) × (visible < 2 ^ 64)
AreInRange FormatRecord = Unit {0}

-- a snapshot has a number for each of so many sites
abbrev pub IsAmong : ℕ → Record → Type 0
IsAmong sites (Boot epoch) = Unit {0}
IsAmong sites (Own seq tx) = length tx.start ≡ sites
IsAmong sites (Got site seq tx) = length tx.start ≡ sites
IsAmong sites (Seen site seq) = Unit {0}
IsAmong sites (Prepared site slow tid objects) = Unit {0}
IsAmong sites (Released site slow) = Unit {0}
IsAmong sites (SlowBegin slow tx) = length tx.start ≡ sites
IsAmong sites (SlowEnd slow) = Unit {0}
IsAmong sites (Marks durable visible) = Unit {0}
IsAmong sites FormatRecord = Unit {0}

-- what has a spelling in the format among so many sites
pub record HasRecordSpelling (format : Format) (sites : ℕ) (journaled : Record) : Type 0 where
  pub fits : sites ≤ most_in format
  pub among : IsAmong sites journaled
  pub sizes : CanBeRecorded journaled
  pub ranges : AreInRange journaled

-- its snapshot, if it has one, has a place in the format
abbrev pub FitsFormat : Format → Record → Type 0
FitsFormat format (Own seq tx) = length tx.start ≤ most_in format
FitsFormat format (Got site seq tx) = length tx.start ≤ most_in format
FitsFormat format (SlowBegin slow tx) = length tx.start ≤ most_in format
FitsFormat format rec = Unit {0}
