-- Why journals that can be read tell no history: each reason of a record, or of two (docs/AUDIT.md,
-- "Reasons").
use Rattle.std.specs.Prelude.{◌≡◌, ◌≢◌, ◌<◌, ◌≤◌, ◌⊎◌, ℕ, false, take, Some}
use Rattle.walter_base.specs.declared.catalog.Catalog.{Catalog}
use Rattle.walter_base.specs.declared.message.Record.TheVariants.{Got, Seen}
use Rattle.walter_base.specs.declared.names.SiteId.{SiteId}
use Rattle.walter_base.specs.declared.transaction.Tx.{Tx}
use Rattle.walter_base.specs.Values.{DoConflict}
use Rattle.walter_base.specs.Vectors.{entry_at}
use Rattle.walter_audit.specs.declared.finding.Named.{Named}
use Rattle.walter_audit.specs.Journals.{Journals, record_at, IsOwn, HasOwn, are_counts}

-- it receives or sees a commit that its site hasn't made
pub record IsMissing (journals : Journals) (a : Named) : Type 0 where
  pub from : SiteId
  pub seq : ℕ
  pub told : ((tx : Tx) × (record_at journals a ≡ Some (Got from seq tx)))
      ⊎ (record_at journals a ≡ Some (Seen from seq))
  pub unmade : ¬ HasOwn journals from seq

-- it receives a commit otherwise than its site made it
pub record IsDifferent (journals : Journals) (a b : Named) : Type 0 where
  pub seq : ℕ
  pub received : Tx
  pub made : Tx
  pub here : record_at journals a ≡ Some (Got b.site seq received)
  pub there : IsOwn journals b seq made
  pub apart : received ≢ made

-- two own commits
pub record AreOwns (journals : Journals) (a b : Named) : Type 0 where
  pub seq : ℕ
  pub other : ℕ
  pub x : Tx
  pub y : Tx
  pub first : IsOwn journals a seq x
  pub second : IsOwn journals b other y
  pub apart : a ≢ b

-- of one transaction
pub record AreTwice (journals : Journals) (a b : Named) : Type 0 where
  pub owns : AreOwns journals a b
  pub same : owns.x.tid ≡ owns.y.tid

-- an own commit whose start is the counts of no front of the records before it
pub record IsUnstarted (catalog : Catalog) (journals : Journals) (a : Named) : Type 0 where
  pub seq : ℕ
  pub tx : Tx
  pub here : IsOwn journals a seq tx
  pub never : (p : ℕ) → p ≤ a.index → are_counts catalog a.site (take p (journals a.site)) tx.start ≡ false

-- two own commits that conflict, neither of which is seen by the other's start
pub record AreUnordered (journals : Journals) (a b : Named) : Type 0 where
  pub owns : AreOwns journals a b
  pub conflict : DoConflict owns.x.updates owns.y.updates
  pub first_unseen : entry_at owns.y.start a.site < owns.seq
  pub second_unseen : entry_at owns.x.start b.site < owns.other
