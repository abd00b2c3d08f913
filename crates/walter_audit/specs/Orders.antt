-- The order that an audit takes the records of all sites in: again and again the next item of the least site that can
-- go on; and the history that an order spells (docs/AUDIT.md, "The order").
use Rattle.std.specs.Prelude.{◌≡◌, ◌<◌, ℕ, ◌+◌, Bool, not, ◌&&◌, List, [], ◌∷◌, ◌++◌, map, flat_map, filter_map, length, take, slice_get, Contains, Option, Some, None, if◌then◌else◌}
use Rattle.std.specs.List.{list_any, range_with_len}
use Rattle.walter_base.specs.declared.catalog.Catalog.{Catalog}
use Rattle.walter_base.specs.declared.message.Record.{Record}
use Rattle.walter_base.specs.declared.message.Record.TheVariants.{Own, Seen}
use Rattle.walter_base.specs.declared.names.SiteId.{SiteId}
use Rattle.walter_base.specs.declared.transaction.Tx.{Tx}
use Rattle.walter_base.specs.Names.{same_site}
use Rattle.walter_psi.specs.declared.step.Step.{Step}
use Rattle.walter_psi.specs.declared.step.Step.TheVariants.{Start, Op, Commit, Arrive}
use Rattle.walter_audit.specs.declared.finding.Named.{Named}
pub use Rattle.walter_audit.specs.declared.item.Item.{Item}
pub use Rattle.walter_audit.specs.declared.item.Item.TheVariants.{Starts, Commits, Arrives}
use Rattle.walter_audit.specs.Journals.{Journals, IsOwn, own_at, are_counts}

-- an item has its place, which is how many records stand before it: the start of an own commit's transaction; an own
-- commit, by its number; or the arrival of another site's commit
abbrev pub place_of : Item → ℕ
place_of (Starts place tx) = place
place_of (Commits place seq tx) = place
place_of (Arrives place j seq) = place

-- whether the front of this length is the shortest whose counts are the start
abbrev pub is_shortest : Catalog → SiteId → List Record → List ℕ → ℕ → Bool
is_shortest catalog i records start p =
    are_counts catalog i (take p records) start
    && not (list_any (λ q. are_counts catalog i (take q records) start) (range_with_len 0 p))

-- the start of an own commit behind this front, if it stands there
abbrev pub start_behind : Catalog → SiteId → List Record → ℕ → Record → Option Item
start_behind catalog i records p (Own seq tx) =
    if is_shortest catalog i records tx.start p then Some (Starts p tx) else None
start_behind catalog i records p rec = None

-- the item of the record at this place
abbrev pub item_of : ℕ → Option Record → List Item
item_of place None = []
item_of place (Some (Own seq tx)) = Commits place seq tx ∷ []
item_of place (Some (Seen j seq)) = Arrives place j seq ∷ []
item_of place (Some rec) = []

-- a site's items: behind each front the starts that stand there, in the order of their commits, and then the next
-- record's
abbrev pub items_behind : Catalog → SiteId → List Record → ℕ → List Item
items_behind catalog i records p =
    filter_map (start_behind catalog i records p) records ++ item_of p (slice_get records p)

abbrev pub items : Catalog → SiteId → List Record → List Item
items catalog i records = flat_map (items_behind catalog i records) (range_with_len 0 (length records + 1))

-- an item that was taken, with its site
abbrev pub Taken : Type 0
Taken = SiteId × Item

-- an item can go on behind those that were taken: an arrival waits for its commit
abbrev pub CanGo : List Taken → Item → Type 0
CanGo done (Starts place tx) = Unit {0}
CanGo done (Commits place seq tx) = Unit {0}
CanGo done (Arrives place j seq) = (at : ℕ) × (tx : Tx) × Contains done (j, Commits at seq tx)

-- a site of which this is left has nothing that can go on
abbrev pub IsWaiting : List Taken → List Item → Type 0
IsWaiting done [] = Unit {0}
IsWaiting done (item ∷ rest) = ¬ CanGo done item

abbrev pub left_at : SiteId → List Item → (SiteId → List Item) → SiteId → List Item
left_at i rest left k = if same_site i k then rest else left k

-- of all items this is left behind those that were taken, each time the next of the least site that can go on
pub data AreTaken (all : SiteId → List Item) : (SiteId → List Item) → List Taken → Type 0 where
  none_taken : AreTaken all all []
  takes : (left : SiteId → List Item) (done : List Taken) (i : SiteId) (item : Item) (rest : List Item)
      → AreTaken all left done → left i ≡ item ∷ rest → CanGo done item
      → ((k : SiteId) → k.0 < i.0 → IsWaiting done (left k))
      → AreTaken all (left_at i rest left) (done ++ (i, item) ∷ [])

abbrev pub items_of : Catalog → Journals → SiteId → List Item
items_of catalog journals i = items catalog i (journals i)

-- the order in which all are taken
pub record IsOrder (catalog : Catalog) (journals : Journals) (done : List Taken) : Type 0 where
  pub left : SiteId → List Item
  pub taken : AreTaken (items_of catalog journals) left done
  pub all : (k : SiteId) → left k ≡ []

-- the sites wait in a circle: a is the next arrival of the least site of which something is left, and waits for b
pub record IsCycle (catalog : Catalog) (journals : Journals) (a b : Named) : Type 0 where
  pub left : SiteId → List Item
  pub done : List Taken
  pub taken : AreTaken (items_of catalog journals) left done
  pub stuck : (k : SiteId) → IsWaiting done (left k)
  pub before : (k : SiteId) → k.0 < a.site.0 → left k ≡ []
  pub seq : ℕ
  pub tx : Tx
  pub rest : List Item
  pub next : left a.site ≡ Arrives a.index b.site seq ∷ rest
  pub awaited : IsOwn journals b seq tx

-- the steps of an item of a site
abbrev pub arrived : SiteId → Option Tx → List Step
arrived i None = []
arrived i (Some tx) = Arrive tx.tid i ∷ []

abbrev pub steps_of : Journals → Taken → List Step
steps_of journals (i, Starts place tx) = Start tx.tid i ∷ []
steps_of journals (i, Commits place seq tx) =
    map (λ update. Op tx.tid update) tx.updates ++ Commit tx.tid tx.updates ∷ []
steps_of journals (i, Arrives place j seq) = arrived i (own_at journals j seq)

-- the history that an order spells
abbrev pub history : Journals → List Taken → List Step
history journals done = flat_map (steps_of journals) done
