-- What holds of the parts of a machine has one proof at most.
use Rattle.std.proofs.Common.{◌≡◌, ◌<◌, ℕ, inl, inr, ap, arith}
use Rattle.std.specs.Coded.{codes}
use Rattle.std.proofs.Props.{props as usual}
use Rattle.walter_base.specs.declared.message.Record.{Record}
use Rattle.walter_base.specs.declared.message.Record.TheVariants.{Boot, Own, Got, Seen, Prepared, Released, SlowBegin, SlowEnd, Marks, Format as FormatRecord}
use Rattle.walter_base.specs.declared.names.ObjId.{ObjId}
use Rattle.walter_base.specs.Names.{IsBefore}
use Rattle.walter_base.specs.Sizes.{CanBeRecorded}
use Rattle.walter_rules.specs.Records.{IsRecordAmong}
use Rattle.walter_tables.specs.Props.{HasShortValue-prop}

IsBefore-prop : (a b : ObjId) → IsProp (IsBefore a b)
IsBefore-prop a b (inl p) (inl q) =
    let one : IsProp (a.container < b.container) = hlevel usual in
    ap inl (one p q)
IsBefore-prop a b (inl p) (inr q) = absurd (omega (arith, p, q.0))
IsBefore-prop a b (inr p) (inl q) = absurd (omega (arith, q, p.0))
IsBefore-prop a b (inr p) (inr q) =
    let one : IsProp ((a.container ≡ b.container) × (a.local < b.local)) = hlevel usual in
    ap inr (one p q)

CanBeRecorded-prop : (rec : Record) → IsProp (CanBeRecorded rec)
CanBeRecorded-prop (Boot epoch) = hlevel usual
CanBeRecorded-prop (Own seq tx) = hlevel (usual, HasShortValue-prop)
CanBeRecorded-prop (Got from seq tx) = hlevel (usual, HasShortValue-prop)
CanBeRecorded-prop (Seen from seq) = hlevel usual
CanBeRecorded-prop (Prepared from slow tid objects) = hlevel (usual, IsBefore-prop)
CanBeRecorded-prop (Released from slow) = hlevel usual
CanBeRecorded-prop (SlowBegin slow tx) = hlevel (usual, HasShortValue-prop)
CanBeRecorded-prop (SlowEnd slow) = hlevel usual
CanBeRecorded-prop (Marks durable visible) = hlevel usual
CanBeRecorded-prop FormatRecord = hlevel usual

pub IsRecordAmong-prop : (sites : ℕ) (rec : Record) → IsProp (IsRecordAmong sites rec)
IsRecordAmong-prop sites (Own seq tx) = hlevel (usual, HasShortValue-prop)
IsRecordAmong-prop sites (Got from seq tx) = hlevel (usual, HasShortValue-prop)
IsRecordAmong-prop sites (SlowBegin slow tx) = hlevel (usual, HasShortValue-prop)
IsRecordAmong-prop sites rec = CanBeRecorded-prop rec

pub ruleset props = (usual, codes, IsRecordAmong-prop)
