-- Where what stands behind the kind of a record can't be read, no record of this kind has it.
use Rattle.std.proofs.Common.{◌≡◌, ◌≢◌, ℕ, ◌≤◌, List, ◌++◌, arith}
use Rattle.walter_base.specs.declared.format.Format.{Format}
use Rattle.walter_base.specs.declared.message.Record.{Record}
use Rattle.walter_base.specs.declared.message.Record.TheVariants.{Boot, Own, Got, Seen, Prepared, Released, SlowBegin, SlowEnd, Marks, Format as FormatRecord}
use Rattle.walter_fields.specs.Spellings.{number_spelled}
use Rattle.walter_names.specs.Names.{version_spelled, IsVersion}
use Rattle.walter_txcode.specs.Faults.{NoneBegins}
use Rattle.walter_txcode.specs.Kinds.{IsSuchOfKind}
use Rattle.walter_txcode.specs.Spelling.{numbered_spelled, IsNumbered}
use Rattle.walter_txcode.proofs.Joined.{IsNumber}
use Rattle.walter_record.specs.Fields.{kind_of, fields_spelled, got_spelled, prepared_spelled, marks_spelled, IsGot, IsPrepared, AreMarks}
use Rattle.walter_record.specs.Spelling.{as_version, HasRecordSpelling}
use Rattle.walter_record.proofs.Records.{IsEpoch, known_kind, spelled_transaction, spelled_slow, spelled_got, spelled_prepared}

abbrev pub NoFields : Format → ℕ → ℕ → List ℕ → Type 0
NoFields format sites kind left = NoneBegins (IsSuchOfKind (HasRecordSpelling format sites) kind_of kind) (fields_spelled format) left

-- the same, record by record
abbrev NoRecord : Format → ℕ → ℕ → List ℕ → Type 0
NoRecord format sites kind left = (r : Record) (rest : List ℕ) → IsSuchOfKind (HasRecordSpelling format sites) kind_of kind r → left ≢ fields_spelled format r ++ rest

pub no_boot : (format : Format) (sites kind : ℕ) (left : List ℕ) → kind ≡ 1 → NoneBegins IsEpoch (number_spelled 4) left → NoFields format sites kind left
no_boot format sites kind left is none = record { none = each }
  where
    each : NoRecord format sites kind left
    each (Boot epoch) rest of e = none.none epoch rest of.1.ranges e
    each r rest of e = omega (arith, is, of.0)

pub no_own : (format : Format) (sites kind : ℕ) (left : List ℕ) → kind ≡ 2 → NoneBegins (IsNumbered format sites) (numbered_spelled format) left → NoFields format sites kind left
no_own format sites kind left is none = record { none = each }
  where
    each : NoRecord format sites kind left
    each (Own seq tx) rest of e = none.none (seq, tx) rest (spelled_transaction format sites seq tx of.1) e
    each r rest of e = omega (arith, is, of.0)

pub no_got : (format : Format) (sites kind : ℕ) (left : List ℕ) → kind ≡ 3 → NoneBegins (IsGot format sites) (got_spelled format) left → NoFields format sites kind left
no_got format sites kind left is none = record { none = each }
  where
    each : NoRecord format sites kind left
    each (Got site seq tx) rest of e = none.none (as_version site seq, tx) rest (spelled_got format sites site seq tx of.1) e
    each r rest of e = omega (arith, is, of.0)

pub no_seen : (format : Format) (sites kind : ℕ) (left : List ℕ) → kind ≡ 4 → NoneBegins IsVersion version_spelled left → NoFields format sites kind left
no_seen format sites kind left is none = record { none = each }
  where
    each : NoRecord format sites kind left
    each (Seen site seq) rest of e = none.none (as_version site seq) rest of.1.ranges e
    each r rest of e = omega (arith, is, of.0)

pub no_prepared : (format : Format) (sites kind : ℕ) (left : List ℕ) → kind ≡ 5 → NoneBegins IsPrepared prepared_spelled left → NoFields format sites kind left
no_prepared format sites kind left is none = record { none = each }
  where
    each : NoRecord format sites kind left
    each (Prepared site slow tid objects) rest of e = none.none (as_version site slow, (tid, objects)) rest (spelled_prepared format sites site slow tid objects of.1) e
    each r rest of e = omega (arith, is, of.0)

pub no_released : (format : Format) (sites kind : ℕ) (left : List ℕ) → kind ≡ 6 → NoneBegins IsVersion version_spelled left → NoFields format sites kind left
no_released format sites kind left is none = record { none = each }
  where
    each : NoRecord format sites kind left
    each (Released site slow) rest of e = none.none (as_version site slow) rest of.1.ranges e
    each r rest of e = omega (arith, is, of.0)

pub no_slow_begin : (format : Format) (sites kind : ℕ) (left : List ℕ) → kind ≡ 7 → NoneBegins (IsNumbered format sites) (numbered_spelled format) left → NoFields format sites kind left
no_slow_begin format sites kind left is none = record { none = each }
  where
    each : NoRecord format sites kind left
    each (SlowBegin slow tx) rest of e = none.none (slow, tx) rest (spelled_slow format sites slow tx of.1) e
    each r rest of e = omega (arith, is, of.0)

pub no_slow_end : (format : Format) (sites kind : ℕ) (left : List ℕ) → kind ≡ 8 → NoneBegins IsNumber (number_spelled 8) left → NoFields format sites kind left
no_slow_end format sites kind left is none = record { none = each }
  where
    each : NoRecord format sites kind left
    each (SlowEnd slow) rest of e = none.none slow rest of.1.ranges e
    each r rest of e = omega (arith, is, of.0)

pub no_marks : (format : Format) (sites kind : ℕ) (left : List ℕ) → kind ≡ 9 → NoneBegins AreMarks marks_spelled left → NoFields format sites kind left
no_marks format sites kind left is none = record { none = each }
  where
    each : NoRecord format sites kind left
    each (Marks durable visible) rest of e = none.none (durable, visible) rest of.1.ranges e
    each r rest of e = omega (arith, is, of.0)

pub no_format : (format : Format) (sites kind : ℕ) (left : List ℕ) → kind ≡ 10 → ((rest : List ℕ) → left ≢ number_spelled 1 2 ++ rest) → NoFields format sites kind left
no_format format sites kind left is none = record { none = each }
  where
    each : NoRecord format sites kind left
    each FormatRecord rest of e = none rest e
    each r rest of e = omega (arith, is, of.0)

pub no_such_kind : (format : Format) (sites kind : ℕ) (left : List ℕ) → ((1 ≤ kind) × (kind ≤ 10) → ⊥) → NoFields format sites kind left
no_such_kind format sites kind left unknown = record { none = λ r rest of e. unknown (omega (arith, of.0, known_kind r), omega (arith, of.0, known_kind r)) }
