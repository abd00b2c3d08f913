-- What an audit finds: an order in which the records of all sites tell a legal history; or the first reason that
-- stands, of its least pair of records (docs/AUDIT.md).
use Rattle.std.specs.Prelude.{◌≡◌, ◌<◌, ℕ, List, flat_map, slice_get, Some}
use Rattle.walter_base.specs.declared.catalog.Catalog.{Catalog}
use Rattle.walter_base.specs.declared.message.Record.TheVariants.{Own}
use Rattle.walter_base.specs.declared.names.SiteId.{SiteId}
use Rattle.walter_base.specs.declared.transaction.Tx.{Tx}
use Rattle.walter_psi.specs.declared.step.Step.{Step}
use Rattle.walter_psi.specs.Histories.{log, committed_updates}
use Rattle.walter_psi.specs.Legal.{IsLegal}
use Rattle.walter_audit.specs.declared.finding.Finding.{Finding}
use Rattle.walter_audit.specs.declared.finding.Finding.TheVariants.{Yes, No}
use Rattle.walter_audit.specs.declared.finding.Named.{Named}
use Rattle.walter_audit.specs.declared.finding.Reason.{Reason}
use Rattle.walter_audit.specs.declared.finding.Reason.TheVariants.{Unreadable, Missing, Differs, Twice, Start, Conflict, Cycle}
use Rattle.walter_audit.specs.Contents.{Contents, AreAllRead, Stands}
use Rattle.walter_audit.specs.Firsts.{IsFirstPair}
use Rattle.walter_audit.specs.Journals.{Journals, record_tids}
use Rattle.walter_audit.specs.Orders.{Taken, IsOrder, history}

-- the order of reasons
abbrev pub rank : Reason → ℕ
rank Unreadable = 0
rank Missing = 1
rank Differs = 2
rank Twice = 3
rank Start = 4
rank Conflict = 5
rank Cycle = 6

-- no reason before this one stands
abbrev pub NoneBefore : Catalog → Contents → Reason → Type 0
NoneBefore catalog contents reason =
    (other : Reason) (c d : Named) → rank other < rank reason → ¬ Stands catalog contents other c d

-- the reason stands of this pair, of none before it, and no earlier reason stands
pub record IsNo (catalog : Catalog) (contents : Contents) (reason : Reason) (a b : Named) : Type 0 where
  pub stands : IsFirstPair (Stands catalog contents reason) a b
  pub first : NoneBefore catalog contents reason

abbrev pub NoneStands : Catalog → Contents → Type 0
NoneStands catalog contents = (reason : Reason) (a b : Named) → ¬ Stands catalog contents reason a b

-- the history is that of the journals: the log of each site has the transactions of its own commits and of those that
-- it sees, in the order of its records, and each commits what its own commit says
pub record IsHistoryOf (journals : Journals) (steps : List Step) : Type 0 where
  pub legal : IsLegal steps
  pub logs : (i : SiteId) → log i steps ≡ flat_map (record_tids journals) (journals i)
  pub updates : (i : SiteId) (index seq : ℕ) (tx : Tx) → slice_get (journals i) index ≡ Some (Own seq tx)
      → committed_updates steps tx.tid ≡ tx.updates

-- no reason stands, and this is the order
pub record IsYes (catalog : Catalog) (contents : Contents) (order : List Taken) : Type 0 where
  pub none : NoneStands catalog contents
  pub journals : Journals
  pub read : AreAllRead catalog contents journals
  pub ordered : IsOrder catalog journals order
  pub tells : IsHistoryOf journals (history journals order)

-- what is said of a yes, and of a no
abbrev pub IfYes : Finding → (List Taken → Type 0) → Type 0
IfYes (Yes order) P = P order.items
IfYes finding P = Unit {0}

abbrev pub IfNo : Finding → (Reason → Named → Named → Type 0) → Type 0
IfNo (No reason a b) P = P reason a b
IfNo finding P = Unit {0}

-- the finding is right of these contents
abbrev pub IsFound : Catalog → Contents → Finding → Type 0
IsFound catalog contents finding = IfYes finding (IsYes catalog contents) × IfNo finding (IsNo catalog contents)

-- these journals are those of the contents, and no reason before this one stands
pub record AreSound (catalog : Catalog) (journals : Journals) (contents : Contents) (reason : Reason) : Type 0 where
  pub read : AreAllRead catalog contents journals
  pub none : NoneBefore catalog contents reason
