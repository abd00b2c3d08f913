-- What a right trail keeps by itself, whatever other sites say.
use Rattle.std.specs.Prelude.{◌≡◌, ◌≢◌, ◌+◌, ◌<◌, ◌≤◌, ◌⊎◌, ℕ, Bool, true, false, List, Some, Contains}
use Rattle.walter_base.specs.declared.catalog.Catalog.{Catalog}
use Rattle.walter_base.specs.declared.message.Record.TheVariants.{Boot}
use Rattle.walter_base.specs.declared.names.ObjId.{ObjId}
use Rattle.walter_base.specs.declared.names.SiteId.{SiteId}
use Rattle.walter_base.specs.declared.names.Tid.{Tid}
use Rattle.walter_base.specs.declared.transaction.Tx.{Tx}
use Rattle.walter_base.specs.Values.{write_set}
use Rattle.walter_base.specs.Vectors.{entry_at}
use Rattle.walter_rules.specs.Knowledge.{Knowledge, fresh, preferred, session_of}
use Rattle.walter_rules.specs.Learning.{lost}
use Rattle.walter_rules.specs.Log.{of_site}
use Rattle.walter_rules.specs.Sessions.{Session}
use Rattle.walter_rules.specs.Slow.{Undecided, Dropped, Locked}
use Rattle.walter_rules.specs.Standing.{Standing}
use Rattle.walter_agreement.proofs.FastNames.{AreFastNames}
use Rattle.walter_agreement.proofs.Issued.{Issued, IsIssued}
use Rattle.walter_agreement.proofs.Owners.{AreOwners}
use Rattle.walter_agreement.proofs.Tidy.{IsTidy}

-- the site at which an object is preferred. So far it is the catalog's, whatever a site knows.
abbrev pub home : Catalog → ObjId → SiteId
home catalog oid = preferred catalog fresh oid

-- which names a site has given: where it is down, all of its epoch, and none of the next one
abbrev pub issued_by : Bool → Knowledge → Issued
issued_by true K = record { epoch = K.epoch; starts = K.starts }
issued_by false K = record { epoch = K.epoch + 1; starts = 0 }

abbrev pub issued_of : Standing → Issued
issued_of S = issued_by S.up S.knows

-- the sites that a slow commit asks are the others of the catalog at which something that it writes is preferred
pub record IsAskedFor (catalog : Catalog) (i : SiteId) (tx : Tx) (asked : List SiteId) : Type 0 where
  pub there : (p : SiteId) → Contains asked p
      → (p ≢ i) × (p.0 < catalog.sites) × ((oid : ObjId) × Contains (write_set tx.updates) oid × (home catalog oid ≡ p))
  pub all : (oid : ObjId) → Contains (write_set tx.updates) oid → home catalog oid ≢ i
      → (home catalog oid).0 < catalog.sites
      → Contains asked (home catalog oid)

-- what holds of how a site stands, by its own trail
pub record IsAlone (catalog : Catalog) (i : SiteId) (S : Standing) : Type 0 where
  -- its slow commits and sessions belong together
  pub tidy : IsTidy i (λ c. session_of S.knows c) S.knows.slow S.flight S.up S.knows.last (issued_of S)
      (of_site i S.knows.log)
  -- no transaction of its is both a fast commit and a slow one
  pub names : AreFastNames (λ c. session_of S.knows c) S.knows.slow S.flight (issued_of S) (of_site i S.knows.log)
  -- an own lock is of a slow commit that is being decided
  pub own_open : (n : ℕ) (t : Tid) (objs : List ObjId) → S.knows.part i n ≡ Locked t objs
      → (tx : Tx) × (asked : List SiteId) × (S.knows.slow n ≡ Undecided tx asked)
  -- the owners of objects are those of its locks
  pub owners : AreOwners S.knows.part S.knows.owner
  -- what is locked is preferred here
  pub here : (j : SiteId) (n : ℕ) (t : Tid) (objs : List ObjId) (oid : ObjId) → S.knows.part j n ≡ Locked t objs
      → Contains objs oid → home catalog oid ≡ i
  -- who is asked
  pub asked : (n : ℕ) (tx : Tx) (asked : List SiteId) → (S.knows.slow n ≡ Undecided tx asked)
      ⊎ (S.knows.slow n ≡ Dropped tx asked) → IsAskedFor catalog i tx asked
  -- sessions are of transactions that it has started, each client's of another one
  pub started : (c : ℕ) (s : Session) → session_of S.knows c ≡ Some s → (s.tid.site ≡ i) × IsIssued (issued_of S) s.tid
  pub distinct : (c d : ℕ) (s t : Session) → session_of S.knows c ≡ Some s → session_of S.knows d ≡ Some t
      → s.tid ≡ t.tid → c ≡ d
  -- and see no more than is committed here
  pub snapshots : (c : ℕ) (s : Session) → session_of S.knows c ≡ Some s → (k : SiteId)
      → entry_at s.snapshot k ≤ S.knows.committed k
  -- sites that aren't of the catalog have committed nothing
  pub outside : (k : SiteId) → catalog.sites ≤ k.0 → (S.knows.got k ≡ 0) × (S.knows.committed k ≡ 0)
  -- a site that is down knows what its records tell, and one that is up has an epoch
  pub stopped : S.up ≡ false → lost S.knows ≡ S.knows
  pub booted : S.up ≡ true → 0 < S.knows.epoch
  -- a Boot in flight is of the next epoch
  pub boot : (epoch : ℕ) → S.flight ≡ Some (Boot epoch) → epoch ≡ S.knows.epoch + 1
