-- How the order is found: what is left of each site's items behind so many, and which of them can go on (docs/AUDIT.md,
-- "The order").
use Rattle.std.specs.Prelude.{◌≡◌, ◌<◌, ℕ, Bool, true, false, ◌&&◌, nat_eq, List, [], drop, length, slice_get, slice_index, unwrap_or, Option, None, Some, IsTrue}
use Rattle.walter_base.specs.declared.names.SiteId.{SiteId}
use Rattle.walter_base.specs.declared.names.Version.{Version}
use Rattle.walter_base.specs.Names.{same_site}
use Rattle.walter_audit.specs.Orders.{Item, Commits, Arrives, Taken, AreTaken, IsWaiting}

abbrev pub same_version : Version → Version → Bool
same_version a b = same_site a.site b.site && nat_eq a.seq b.seq

-- whether this is the commit of an item of the site
abbrev pub is_commit_of : SiteId → Item → Version → Bool
is_commit_of i (Commits place seq tx) v = same_version (record { site = i; seq = seq }) v
is_commit_of i item v = false

-- whether the item can go on, where these commits were taken
abbrev pub can_go : (Version → Bool) → Item → Bool
can_go has (Arrives place j seq) = has (record { site = j; seq = seq })
can_go has item = true

abbrev pub GoesOn : (Version → Bool) → Option Item → Type 0
GoesOn has None = ⊥
GoesOn has (Some item) = IsTrue (can_go has item)

-- the items of each site
abbrev pub all_of : List (List Item) → SiteId → List Item
all_of queues k = unwrap_or (slice_get queues k.0) []

-- the next item of a site, behind so many of each
abbrev pub next_at : List (List Item) → List ℕ → ℕ → Option Item
next_at queues cursors n = slice_get (unwrap_or (slice_get queues n) []) (slice_index cursors n)

-- this is the next item of the least site that can go on
pub record IsNext (has : Version → Bool) (queues : List (List Item)) (cursors : List ℕ) (n : ℕ)
    (item : Item) : Type 0 where
  pub within : n < length queues
  pub next : next_at queues cursors n ≡ Some item
  pub goes : IsTrue (can_go has item)
  pub least : (k : ℕ) → k < n → ¬ GoesOn has (next_at queues cursors k)

-- no site can go on
abbrev pub AreStuck : (Version → Bool) → List (List Item) → List ℕ → Type 0
AreStuck has queues cursors = (k : ℕ) → k < length queues → ¬ GoesOn has (next_at queues cursors k)

-- so many items of each site were taken in this order, and no site can go on
pub record IsWalk (queues : List (List Item)) (order : List Taken) (cursors : List ℕ) : Type 0 where
  pub sized : length cursors ≡ length queues
  pub left : SiteId → List Item
  pub taken : AreTaken (all_of queues) left order
  pub is : (k : SiteId) → left k ≡ drop (slice_index cursors k.0) (all_of queues k)
  pub stuck : (k : SiteId) → IsWaiting order (left k)

-- this is the next item of the least site of which something is left
pub record IsLeft (queues : List (List Item)) (cursors : List ℕ) (n : ℕ) (item : Item) : Type 0 where
  pub within : n < length queues
  pub next : next_at queues cursors n ≡ Some item
  pub before : (k : ℕ) → k < n → next_at queues cursors k ≡ None

-- nothing is left of any
abbrev pub NoneIsLeft : List (List Item) → List ℕ → Type 0
NoneIsLeft queues cursors = (k : ℕ) → k < length queues → next_at queues cursors k ≡ None
