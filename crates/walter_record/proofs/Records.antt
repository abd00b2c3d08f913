-- How long the spelling of a record is, that it is of no other record, and where none is read.
use Rattle.std.proofs.Common.{◌≡◌, ℕ, ◌+◌, ◌*◌, ◌^◌, ◌<◌, ◌≤◌, List, [], ◌++◌, length, refl, sym, ◌∙◌, append-nil, arith}
use Rattle.std.proofs.lemmas.List.{length-append, append_cancel_left}
use Rattle.walter_base.specs.declared.format.Format.{Format}
use Rattle.walter_base.specs.declared.format.Format.TheVariants.{First, Second}
use Rattle.walter_base.specs.Sizes.{most_in, size_in, size_of_record, CanBeSpelled, CanBeRecorded}
use Rattle.walter_base.specs.Vectors.{most_sites}
use Rattle.walter_base.specs.declared.message.Record.{Record}
use Rattle.walter_base.specs.declared.message.Record.TheVariants.{Boot, Own, Got, Seen, Prepared, Released, SlowBegin, SlowEnd, Marks, Format as FormatRecord}
use Rattle.walter_base.specs.declared.names.ObjId.{ObjId}
use Rattle.walter_base.specs.declared.names.SiteId.{SiteId}
use Rattle.walter_base.specs.declared.names.Tid.{Tid}
use Rattle.walter_base.specs.declared.transaction.Tx.{Tx}
use Rattle.walter_fields.specs.Spellings.{number_spelled}
use Rattle.walter_fields.proofs.Numbers.{length-number_spelled, same_number}
use Rattle.walter_names.specs.Names.{tid_spelled, version_spelled}
use Rattle.walter_names.proofs.Lengths.{length-tid_spelled, length-version_spelled}
use Rattle.walter_txcode.specs.Spelling.{spelling, objects_spelled, IsNumbered}
use Rattle.walter_txcode.proofs.Joined.{IsPrefixFree, free_both, free_numbers, free_versions, free_tids, free_objects, free_transactions, free_numbered}
use Rattle.walter_txcode.proofs.ByKind.{HasKinds, free_kinds}
use Rattle.walter_txcode.proofs.Lengths.{length-spelling}
use Rattle.walter_txcode.proofs.Rising.{length-objects_spelled}
use Rattle.walter_record.specs.Fields.{kind_of, fields_spelled, got_spelled, prepared_spelled, marks_spelled, IsGot, IsPrepared, AreMarks}
use Rattle.walter_record.specs.Spelling.{FitsFormat, as_version, record_spelled, HasRecordSpelling}

-- ---- how many bytes

behind : (k n : ℕ) (fields : List ℕ) → length fields ≡ n → length (number_spelled 1 k ++ fields) ≡ 1 + n
behind k n fields long = omega (arith, length-append (number_spelled 1 k) fields, length-number_spelled 1 k, long)

with_transaction : (format : Format) (front : List ℕ) (n : ℕ) (tx : Tx) → length front ≡ n → length tx.start ≤ most_in format → length (front ++ spelling format tx) ≡ n + size_in format tx
with_transaction format front n tx long few = omega (arith, length-append front (spelling format tx), long, length-spelling format tx few)

of_prepared : (site : SiteId) (slow : ℕ) (tid : Tid) (objects : List ObjId) → length (version_spelled (as_version site slow) ++ (tid_spelled tid ++ objects_spelled objects)) ≡ 24 + 12 * length objects
of_prepared site slow tid objects =
    omega (
      arith,
      length-append (version_spelled (as_version site slow)) (tid_spelled tid ++ objects_spelled objects),
      length-append (tid_spelled tid) (objects_spelled objects),
      length-version_spelled (as_version site slow),
      length-tid_spelled tid,
      length-objects_spelled objects,
    )

-- the spelling has the record's size
pub length-record_spelled : (format : Format) (journaled : Record) → FitsFormat format journaled → length (record_spelled format journaled) ≡ size_of_record format journaled
length-record_spelled format (Boot epoch) can = behind 1 4 (number_spelled 4 epoch) (length-number_spelled 4 epoch)
length-record_spelled format (Own seq tx) can = omega (arith, behind 2 (8 + size_in format tx) (number_spelled 8 seq ++ spelling format tx) (with_transaction format (number_spelled 8 seq) 8 tx (length-number_spelled 8 seq) can))
length-record_spelled format (Got site seq tx) can =
    omega (arith, behind 3 (9 + size_in format tx) (version_spelled (as_version site seq) ++ spelling format tx) (with_transaction format (version_spelled (as_version site seq)) 9 tx (length-version_spelled (as_version site seq)) can))
length-record_spelled format (Seen site seq) can = behind 4 9 (version_spelled (as_version site seq)) (length-version_spelled (as_version site seq))
length-record_spelled format (Prepared site slow tid objects) can =
    omega (arith, behind 5 (24 + 12 * length objects) (version_spelled (as_version site slow) ++ (tid_spelled tid ++ objects_spelled objects)) (of_prepared site slow tid objects))
length-record_spelled format (Released site slow) can = behind 6 9 (version_spelled (as_version site slow)) (length-version_spelled (as_version site slow))
length-record_spelled format (SlowBegin slow tx) can = omega (arith, behind 7 (8 + size_in format tx) (number_spelled 8 slow ++ spelling format tx) (with_transaction format (number_spelled 8 slow) 8 tx (length-number_spelled 8 slow) can))
length-record_spelled format (SlowEnd slow) can = behind 8 8 (number_spelled 8 slow) (length-number_spelled 8 slow)
length-record_spelled format (Marks durable visible) can =
    behind 9 16 (number_spelled 8 durable ++ number_spelled 8 visible) (omega (arith, length-append (number_spelled 8 durable) (number_spelled 8 visible), length-number_spelled 8 durable, length-number_spelled 8 visible))
length-record_spelled format FormatRecord can = behind 10 1 (number_spelled 1 2) (length-number_spelled 1 2)

most_in_transaction : (format : Format) (tx : Tx) → CanBeSpelled tx → size_in format tx ≤ 60065
most_in_transaction First tx can = omega (arith, can.updates.size)
most_in_transaction Second tx can = omega (arith, can.updates.size, can.sites)

most_bytes : (format : Format) (journaled : Record) → CanBeRecorded journaled → size_of_record format journaled ≤ 60075
most_bytes format (Boot epoch) can = omega arith
most_bytes format (Own seq tx) can = omega (arith, most_in_transaction format tx can)
most_bytes format (Got site seq tx) can = omega (arith, most_in_transaction format tx can)
most_bytes format (Seen site seq) can = omega arith
most_bytes format (Prepared site slow tid objects) can = omega (arith, can.few)
most_bytes format (Released site slow) can = omega arith
most_bytes format (SlowBegin slow tx) can = omega (arith, most_in_transaction format tx can)
most_bytes format (SlowEnd slow) can = omega arith
most_bytes format (Marks durable visible) can = omega arith
most_bytes format FormatRecord can = omega arith

pub at_most : (format : Format) (journaled : Record) → CanBeRecorded journaled → FitsFormat format journaled
    → length (record_spelled format journaled) ≤ 60075
at_most format journaled can fits =
    omega (arith, length-record_spelled format journaled fits, most_bytes format journaled can)

-- ---- kinds

pub record_parts : (format : Format) (r : Record) → record_spelled format r ≡ number_spelled 1 (kind_of r) ++ fields_spelled format r
record_parts format (Boot epoch) = refl
record_parts format (Own seq tx) = refl
record_parts format (Got site seq tx) = refl
record_parts format (Seen site seq) = refl
record_parts format (Prepared site slow tid objects) = refl
record_parts format (Released site slow) = refl
record_parts format (SlowBegin slow tx) = refl
record_parts format (SlowEnd slow) = refl
record_parts format (Marks durable visible) = refl
record_parts format FormatRecord = refl

-- the kinds are from 1 to 10
pub known_kind : (r : Record) → (1 ≤ kind_of r) × (kind_of r ≤ 10)
known_kind (Boot epoch) = (omega arith, omega arith)
known_kind (Own seq tx) = (omega arith, omega arith)
known_kind (Got site seq tx) = (omega arith, omega arith)
known_kind (Seen site seq) = (omega arith, omega arith)
known_kind (Prepared site slow tid objects) = (omega arith, omega arith)
known_kind (Released site slow) = (omega arith, omega arith)
known_kind (SlowBegin slow tx) = (omega arith, omega arith)
known_kind (SlowEnd slow) = (omega arith, omega arith)
known_kind (Marks durable visible) = (omega arith, omega arith)
known_kind FormatRecord = (omega arith, omega arith)

-- ---- what is told of the fields by their ranges

abbrev pub IsEpoch : ℕ → Type 0
IsEpoch epoch = epoch < 2 ^ 32

pub spelled_transaction : (format : Format) (sites : ℕ) (seq : ℕ) (tx : Tx) → HasRecordSpelling format sites (Own seq tx) → IsNumbered format sites (seq, tx)
spelled_transaction format sites seq tx has = (has.ranges.0, record { fits = has.fits; sites = has.among; sizes = has.sizes; ranges = has.ranges.1 })

pub spelled_slow : (format : Format) (sites : ℕ) (slow : ℕ) (tx : Tx) → HasRecordSpelling format sites (SlowBegin slow tx) → IsNumbered format sites (slow, tx)
spelled_slow format sites slow tx has = (has.ranges.0, record { fits = has.fits; sites = has.among; sizes = has.sizes; ranges = has.ranges.1 })

pub spelled_got : (format : Format) (sites : ℕ) (site : SiteId) (seq : ℕ) (tx : Tx) → HasRecordSpelling format sites (Got site seq tx) → IsGot format sites (as_version site seq, tx)
spelled_got format sites site seq tx has = (has.ranges.0, record { fits = has.fits; sites = has.among; sizes = has.sizes; ranges = has.ranges.1 })

pub spelled_prepared : (format : Format) (sites : ℕ) (site : SiteId) (slow : ℕ) (tid : Tid) (objects : List ObjId) → HasRecordSpelling format sites (Prepared site slow tid objects) → IsPrepared (as_version site slow, (tid, objects))
spelled_prepared format sites site slow tid objects has = (has.ranges.0, (has.ranges.1, record { listed = has.sizes; ranges = has.ranges.2 }))

-- ---- no spelling begins another

pub free_epochs : IsPrefixFree IsEpoch (number_spelled 4)
free_epochs = record { same = λ a b x y is_a is_b e. same_number 4 a b x y (omega (arith, is_a)) (omega (arith, is_b)) e }

pub free_got : (format : Format) (sites : ℕ) → IsPrefixFree (IsGot format sites) (got_spelled format)
free_got format sites = free_both free_versions (free_transactions format sites)

pub free_prepared : IsPrefixFree IsPrepared prepared_spelled
free_prepared = free_both free_versions (free_both free_tids free_objects)

pub free_marks : IsPrefixFree AreMarks marks_spelled
free_marks = free_both free_numbers free_numbers

same_fields : (format : Format) (sites : ℕ) (a b : Record) (x y : List ℕ) → kind_of a ≡ kind_of b → HasRecordSpelling format sites a → HasRecordSpelling format sites b → fields_spelled format a ++ x ≡ fields_spelled format b ++ y → (a ≡ b) × (x ≡ y)
same_fields format sites (Boot m) (Boot n) x y kinds has_a has_b e = let same = free_epochs.same m n x y has_a.ranges has_b.ranges e in ((λ i. Boot (same.0 i)), same.1)
same_fields format sites (Own m tx) (Own n other) x y kinds has_a has_b e =
    let same = (free_numbered format sites).same (m, tx) (n, other) x y (spelled_transaction format sites m tx has_a) (spelled_transaction format sites n other has_b) e in
    ((λ i. Own (same.0 i).0 (same.0 i).1), same.1)
same_fields format sites (Got s m tx) (Got t n other) x y kinds has_a has_b e =
    let same = (free_got format sites).same (as_version s m, tx) (as_version t n, other) x y (spelled_got format sites s m tx has_a) (spelled_got format sites t n other has_b) e in
    ((λ i. Got (same.0 i).0.site (same.0 i).0.seq (same.0 i).1), same.1)
same_fields format sites (Seen s m) (Seen t n) x y kinds has_a has_b e =
    let same = free_versions.same (as_version s m) (as_version t n) x y has_a.ranges has_b.ranges e in
    ((λ i. Seen (same.0 i).site (same.0 i).seq), same.1)
same_fields format sites (Prepared s m tid os) (Prepared t n other ps) x y kinds has_a has_b e =
    let same = free_prepared.same (as_version s m, (tid, os)) (as_version t n, (other, ps)) x y (spelled_prepared format sites s m tid os has_a) (spelled_prepared format sites t n other ps has_b) e in
    ((λ i. Prepared (same.0 i).0.site (same.0 i).0.seq (same.0 i).1.0 (same.0 i).1.1), same.1)
same_fields format sites (Released s m) (Released t n) x y kinds has_a has_b e =
    let same = free_versions.same (as_version s m) (as_version t n) x y has_a.ranges has_b.ranges e in
    ((λ i. Released (same.0 i).site (same.0 i).seq), same.1)
same_fields format sites (SlowBegin m tx) (SlowBegin n other) x y kinds has_a has_b e =
    let same = (free_numbered format sites).same (m, tx) (n, other) x y (spelled_slow format sites m tx has_a) (spelled_slow format sites n other has_b) e in
    ((λ i. SlowBegin (same.0 i).0 (same.0 i).1), same.1)
same_fields format sites (SlowEnd m) (SlowEnd n) x y kinds has_a has_b e = let same = free_numbers.same m n x y has_a.ranges has_b.ranges e in ((λ i. SlowEnd (same.0 i)), same.1)
same_fields format sites (Marks m k) (Marks n l) x y kinds has_a has_b e =
    let same = free_marks.same (m, k) (n, l) x y has_a.ranges has_b.ranges e in
    ((λ i. Marks (same.0 i).0 (same.0 i).1), same.1)
same_fields format sites FormatRecord FormatRecord x y kinds has_a has_b e = (refl, append_cancel_left (number_spelled 1 2) x y e)
same_fields format sites a b x y kinds has_a has_b e = absurd (omega (arith, kinds))

pub kinds_of : (format : Format) (sites : ℕ) → HasKinds (HasRecordSpelling format sites) kind_of (fields_spelled format) (record_spelled format)
kinds_of format sites = record { parts = record_parts format; low = λ r. omega (arith, known_kind r); same = same_fields format sites }

pub free_records : (format : Format) (sites : ℕ) → IsPrefixFree (HasRecordSpelling format sites) (record_spelled format)
free_records format sites = free_kinds (kinds_of format sites)

-- records with the same spelling are the same
pub same_record : (format : Format) (sites : ℕ) (a b : Record) → HasRecordSpelling format sites a → HasRecordSpelling format sites b → record_spelled format a ≡ record_spelled format b → a ≡ b
same_record format sites a b has_a has_b e = ((free_records format sites).same a b [] [] has_a has_b (append-nil (record_spelled format a) ∙ e ∙ sym (append-nil (record_spelled format b)))).0
