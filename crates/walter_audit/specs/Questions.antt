-- What is asked of a record to find a reason, by what the journals tell (docs/AUDIT.md, "How it is found").
use Rattle.std.specs.Prelude.{◌≡◌, ◌≢◌, ◌<◌, ℕ, List, slice_get, None, Some}
use Rattle.walter_base.specs.declared.message.Record.{Record}
use Rattle.walter_base.specs.declared.message.Record.TheVariants.{Own, Got, Seen}
use Rattle.walter_base.specs.declared.transaction.Tx.{Tx}
use Rattle.walter_base.specs.Values.{DoConflict}
use Rattle.walter_base.specs.Vectors.{entry_at}
use Rattle.walter_audit.specs.declared.finding.Named.{Named}
use Rattle.walter_audit.specs.Journals.{Journals, made_in}

-- it receives or sees a commit that its site hasn't made
abbrev pub Lacks : Journals → Record → Type 0
Lacks journals (Got from seq tx) = made_in (journals from) seq ≡ None
Lacks journals (Seen from seq) = made_in (journals from) seq ≡ None
Lacks journals rec = ⊥

-- it receives a commit otherwise than its site made it
abbrev pub IsOther : Journals → Record → Type 0
IsOther journals (Got from seq tx) = (own : Tx) × (made_in (journals from) seq ≡ Some own) × (tx ≢ own)
IsOther journals rec = ⊥

-- of two records: the second is what the first receives, but otherwise
abbrev pub DoDiffer : Named → Record → Named → Record → Type 0
DoDiffer a (Got from seq tx) b (Own number own) = (from ≡ b.site) × (seq ≡ number) × (tx ≢ own)
DoDiffer a first b second = ⊥

-- they are two own commits of one transaction
abbrev pub AreOneTwice : Named → Record → Named → Record → Type 0
AreOneTwice a (Own seq x) b (Own other y) = (a ≢ b) × (x.tid ≡ y.tid)
AreOneTwice a first b second = ⊥

-- the own commits among these records are of different transactions
abbrev pub AreApart : List Record → Type 0
AreApart records = (k m seq other : ℕ) (x y : Tx) → k < m → slice_get records k ≡ Some (Own seq x)
    → slice_get records m ≡ Some (Own other y) → x.tid ≢ y.tid

-- they are two own commits that conflict, neither of which is seen by the other's start
abbrev pub DoConflictUnseen : Named → Record → Named → Record → Type 0
DoConflictUnseen a (Own seq x) b (Own other y) = (a ≢ b) × DoConflict x.updates y.updates
    × (entry_at y.start a.site < seq) × (entry_at x.start b.site < other)
DoConflictUnseen a first b second = ⊥
