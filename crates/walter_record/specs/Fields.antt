-- The parts of a record's spelling: the byte of its kind, and what stands behind it (docs/FORMATS.md, "Record").
use Rattle.std.specs.Prelude.{◌<◌, ◌^◌, ℕ, List, ◌++◌}
use Rattle.walter_base.specs.declared.format.Format.{Format}
use Rattle.walter_base.specs.declared.message.Record.{Record}
use Rattle.walter_base.specs.declared.message.Record.TheVariants.{Boot, Own, Got, Seen, Prepared, Released, SlowBegin, SlowEnd, Marks, Format as FormatRecord}
use Rattle.walter_base.specs.declared.names.ObjId.{ObjId}
use Rattle.walter_base.specs.declared.names.Tid.{Tid}
use Rattle.walter_base.specs.declared.names.Version.{Version}
use Rattle.walter_base.specs.declared.transaction.Tx.{Tx}
use Rattle.walter_fields.specs.Spellings.{number_spelled}
use Rattle.walter_names.specs.Names.{tid_spelled, version_spelled, IsTid, IsVersion}
use Rattle.walter_txcode.specs.Spelling.{spelling, objects_spelled, HasSpelling, AreSpelledObjects}
use Rattle.walter_record.specs.Spelling.{as_version}

abbrev pub kind_of : Record → ℕ
kind_of (Boot epoch) = 1
kind_of (Own seq tx) = 2
kind_of (Got site seq tx) = 3
kind_of (Seen site seq) = 4
kind_of (Prepared site slow tid objects) = 5
kind_of (Released site slow) = 6
kind_of (SlowBegin slow tx) = 7
kind_of (SlowEnd slow) = 8
kind_of (Marks durable visible) = 9
kind_of FormatRecord = 10

-- a commit of a site, and its transaction
abbrev pub got_spelled : Format → Version × Tx → List ℕ
got_spelled format got = version_spelled got.0 ++ spelling format got.1

abbrev pub IsGot : Format → ℕ → Version × Tx → Type 0
IsGot format sites got = IsVersion got.0 × HasSpelling format sites got.1

-- a slow commit of a site, its transaction, and its objects
abbrev pub prepared_spelled : Version × (Tid × List ObjId) → List ℕ
prepared_spelled prepared = version_spelled prepared.0 ++ (tid_spelled prepared.1.0 ++ objects_spelled prepared.1.1)

abbrev pub IsPrepared : Version × (Tid × List ObjId) → Type 0
IsPrepared prepared = IsVersion prepared.0 × (IsTid prepared.1.0 × AreSpelledObjects prepared.1.1)

-- two numbers
abbrev pub marks_spelled : ℕ × ℕ → List ℕ
marks_spelled marks = number_spelled 8 marks.0 ++ number_spelled 8 marks.1

abbrev pub AreMarks : ℕ × ℕ → Type 0
AreMarks marks = (marks.0 < 2 ^ 64) × (marks.1 < 2 ^ 64)

-- what stands behind the kind
abbrev pub fields_spelled : Format → Record → List ℕ
fields_spelled format (Boot epoch) = number_spelled 4 epoch
fields_spelled format (Own seq tx) = number_spelled 8 seq ++ spelling format tx
fields_spelled format (Got site seq tx) = version_spelled (as_version site seq) ++ spelling format tx
fields_spelled format (Seen site seq) = version_spelled (as_version site seq)
fields_spelled format (Prepared site slow tid objects) =
    version_spelled (as_version site slow) ++ (tid_spelled tid ++ objects_spelled objects)
fields_spelled format (Released site slow) = version_spelled (as_version site slow)
fields_spelled format (SlowBegin slow tx) = number_spelled 8 slow ++ spelling format tx
fields_spelled format (SlowEnd slow) = number_spelled 8 slow
fields_spelled format (Marks durable visible) = number_spelled 8 durable ++ number_spelled 8 visible
fields_spelled format FormatRecord = number_spelled 1 2
