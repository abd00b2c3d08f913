-- Which records can stand in the journal of a site, each by what those before it tell (docs/FORMATS.md, "Record").
use Rattle.std.specs.Prelude.{◌≡◌, ◌≢◌, ◌+◌, ◌<◌, ◌≤◌, ℕ, List, [], ◌∷◌, Some, None, All, IsTrue, length}
use Rattle.walter_base.specs.declared.catalog.Catalog.{Catalog}
use Rattle.walter_base.specs.declared.format.Format.TheVariants.{First}
use Rattle.walter_base.specs.declared.message.Record.{Record}
use Rattle.walter_base.specs.declared.message.Record.TheVariants.{Boot, Own, Got, Seen, Prepared, Released, SlowBegin, SlowEnd, Marks, Format as FormatRecord}
use Rattle.walter_base.specs.declared.names.ObjId.{ObjId}
use Rattle.walter_base.specs.declared.names.SiteId.{SiteId}
use Rattle.walter_base.specs.declared.transaction.Tx.{Tx}
use Rattle.walter_base.specs.Sizes.{CanBeSpelled, CanBeRecorded}
use Rattle.walter_rules.specs.Calls.{next_seq, next_slow}
use Rattle.walter_rules.specs.Declarations.{are_declared, are_lockable}
use Rattle.walter_rules.specs.Deliveries.{is_peer, covers}
use Rattle.walter_rules.specs.Knowledge.{Knowledge}
use Rattle.walter_rules.specs.Learning.{recorded}
use Rattle.walter_rules.specs.Log.{commit_at}
use Rattle.walter_rules.specs.Objects.{objects_at}
use Rattle.walter_rules.specs.Slow.{Undecided, Free, Over}

-- a slow one is being decided, and is that slow commit's transaction
abbrev pub IsOfSlow : Knowledge → Tx → Type 0
IsOfSlow K tx = (asked : List SiteId) × (K.slow tx.slow ≡ Undecided tx asked)

pub record IsNextOwn (catalog : Catalog) (i : SiteId) (K : Knowledge) (seq : ℕ) (tx : Tx) : Type 0 where
  pub booted : 0 < K.epoch
  pub next : seq ≡ next_seq i K
  pub here : tx.tid.site ≡ i
  pub slow : (0 < tx.slow) → IsOfSlow K tx
  pub declared : IsTrue (are_declared catalog tx.updates)

pub record IsNextGot (catalog : Catalog) (i : SiteId) (K : Knowledge) (j : SiteId) (seq : ℕ) (tx : Tx) : Type 0 where
  pub booted : 0 < K.epoch
  pub peer : IsTrue (is_peer catalog i j)
  pub sender : tx.tid.site ≡ j
  pub next : seq ≡ K.got j + 1
  pub covered : IsTrue (covers K.got tx.start)
  pub declared : IsTrue (are_declared catalog tx.updates)

pub record IsNextSeen (catalog : Catalog) (i : SiteId) (K : Knowledge) (j : SiteId) (seq : ℕ) : Type 0 where
  pub booted : 0 < K.epoch
  pub peer : IsTrue (is_peer catalog i j)
  pub next : seq ≡ K.committed j + 1
  pub received : seq ≤ K.got j
  pub covered : (tx : Tx) → commit_at j seq K.log ≡ Some tx → IsTrue (covers K.committed tx.start)

pub record CanPrepare (catalog : Catalog) (i : SiteId) (K : Knowledge) (j : SiteId) (n : ℕ)
    (objects : List ObjId) : Type 0 where
  pub booted : 0 < K.epoch
  pub peer : IsTrue (is_peer catalog i j)
  pub free : K.part j n ≡ Free
  pub here : IsTrue (are_lockable catalog K i objects)
  pub unlocked : All (λ oid. K.owner oid ≡ None) objects

pub record IsNextSlow (catalog : Catalog) (i : SiteId) (K : Knowledge) (n : ℕ) (tx : Tx) : Type 0 where
  pub booted : 0 < K.epoch
  pub next : n ≡ next_slow K
  pub named : tx.slow ≡ n
  pub unlocked : All (λ oid. K.owner oid ≡ None) (objects_at catalog K i tx.updates)
  pub declared : IsTrue (are_declared catalog tx.updates)

pub record CanRise (i : SiteId) (K : Knowledge) (durable visible : ℕ) : Type 0 where
  pub booted : 0 < K.epoch
  pub durable_rises : K.durable_floor ≤ durable
  pub visible_rises : K.visible_floor ≤ visible
  pub durable_own : durable ≤ K.committed i
  pub visible_own : visible ≤ K.committed i

-- the slow commit isn't over here
pub record CanRelease (catalog : Catalog) (i : SiteId) (K : Knowledge) (j : SiteId) (n : ℕ) : Type 0 where
  pub booted : 0 < K.epoch
  pub peer : IsTrue (is_peer catalog i j)
  pub alive : K.part j n ≢ Over

-- the slow commit is being decided
pub record CanEnd (K : Knowledge) (n : ℕ) : Type 0 where
  pub booted : 0 < K.epoch
  pub tx : Tx
  pub asked : List SiteId
  pub undecided : K.slow n ≡ Undecided tx asked

-- no record before it says that the records behind it are in the second format
pub record CanChange (K : Knowledge) : Type 0 where
  pub booted : 0 < K.epoch
  pub first : K.format ≡ First

-- the record can follow those that tell this
abbrev pub CanFollow : Catalog → SiteId → Knowledge → Record → Type 0
CanFollow catalog i K (Boot epoch) = epoch ≡ K.epoch + 1
CanFollow catalog i K (Own seq tx) = IsNextOwn catalog i K seq tx
CanFollow catalog i K (Got j seq tx) = IsNextGot catalog i K j seq tx
CanFollow catalog i K (Seen j seq) = IsNextSeen catalog i K j seq
CanFollow catalog i K (Prepared j n tid objects) = CanPrepare catalog i K j n objects
CanFollow catalog i K (Released j n) = CanRelease catalog i K j n
CanFollow catalog i K (SlowBegin n tx) = IsNextSlow catalog i K n tx
CanFollow catalog i K (SlowEnd n) = CanEnd K n
CanFollow catalog i K (Marks durable visible) = CanRise i K durable visible
CanFollow catalog i K FormatRecord = CanChange K

-- what these records tell, behind those that tell this
abbrev pub replayed : Catalog → SiteId → Knowledge → List Record → Knowledge
replayed catalog i K [] = K
replayed catalog i K (rec ∷ records) = replayed catalog i (recorded catalog i (Some rec) K) records

-- each can follow those before it
abbrev pub CanAllFollow : Catalog → SiteId → Knowledge → List Record → Type 0
CanAllFollow catalog i K [] = Unit {0}
CanAllFollow catalog i K (rec ∷ records) = CanFollow catalog i K rec
    × CanAllFollow catalog i (recorded catalog i (Some rec) K) records

-- the sizes of a record of a site among so many
abbrev pub IsRecordAmong : ℕ → Record → Type 0
IsRecordAmong among (Own seq tx) = (length tx.start ≡ among) × CanBeSpelled tx
IsRecordAmong among (Got from seq tx) = (length tx.start ≡ among) × CanBeSpelled tx
IsRecordAmong among (SlowBegin slow tx) = (length tx.start ≡ among) × CanBeSpelled tx
IsRecordAmong among rec = CanBeRecorded rec
