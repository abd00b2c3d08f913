-- How the circle is found in which sites wait for each other (docs/AUDIT.md, "The order").
use Rattle.std.specs.Prelude.{◌≡◌, ℕ, List}
use Rattle.walter_base.specs.declared.catalog.Catalog.{Catalog}
use Rattle.walter_base.specs.declared.message.Record.{Record}
use Rattle.walter_base.specs.declared.message.Record.TheVariants.{Own}
use Rattle.walter_base.specs.declared.names.SiteId.{SiteId}
use Rattle.walter_base.specs.declared.transaction.Tx.{Tx}
use Rattle.walter_audit.specs.declared.finding.Named.{Named}
use Rattle.walter_audit.specs.Journals.{Journals, IsOwn}
use Rattle.walter_audit.specs.Orders.{Item, Arrives, items_of}
use Rattle.walter_audit.specs.Walks.{all_of}

-- it is an own commit of this number
abbrev pub IsOwnOf : ℕ → Record → Type 0
IsOwnOf seq (Own number tx) = number ≡ seq
IsOwnOf seq rec = ⊥

-- an item of the site is the arrival at a, and waits for the own commit b
abbrev pub IsAwaited : Journals → SiteId → Item → Named → Named → Type 0
IsAwaited journals i (Arrives place j seq) a b =
    (a ≡ record { site = i; index = place }) × (b.site ≡ j) × ((tx : Tx) × IsOwn journals b seq tx)
IsAwaited journals i item a b = ⊥

-- these are the items of each site
abbrev pub AreQueues : Catalog → Journals → List (List Item) → Type 0
AreQueues catalog journals queues = (k : SiteId) → all_of queues k ≡ items_of catalog journals k
