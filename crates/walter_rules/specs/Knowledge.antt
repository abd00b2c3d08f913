-- What a site knows. A later state of it is told field by field in specs/Learning.antt.
use Rattle.std.specs.Prelude.{ℕ, ◌+◌, ◌-◌, List, [], map, filter, not, Option, None}
use Rattle.std.specs.FinMap.{get}
use Rattle.std.specs.List.{range_with_len}
use Rattle.std.specs.Option.{option_map_or}
use Rattle.walter_base.specs.declared.catalog.Catalog.{Catalog}
use Rattle.walter_base.specs.declared.format.Format.{Format}
use Rattle.walter_base.specs.declared.format.Format.TheVariants.{First}
use Rattle.walter_base.specs.declared.names.ObjId.{ObjId}
use Rattle.walter_base.specs.declared.names.SiteId.{SiteId}
use Rattle.walter_base.specs.declared.names.Tid.{Tid}
use Rattle.walter_base.specs.declared.transaction.Conflict.{Conflict}
use Rattle.walter_base.specs.Names.{same_site}
use Rattle.walter_rules.specs.declared.held.Held.{Held}
use Rattle.walter_rules.specs.Sessions.{Session, Sessions, session_in}
use Rattle.walter_rules.specs.Slow.{Slow, Unused, Part, Free}

pub record Knowledge : Type 0 where
  -- the epoch, and the starts in it
  pub epoch : ℕ
  pub starts : ℕ
  -- the own and received transactions, in order; of each site, how many are received and how many committed here, where
  -- own ones count as both
  pub log : List Held
  pub got : SiteId → ℕ
  pub committed : SiteId → ℕ
  -- the clients' transactions
  pub sessions : Sessions
  -- the last number of an own slow commit, and the own slow commits by their numbers
  pub last : ℕ
  pub slow : ℕ → Slow
  -- what there is here of the slow commits of each coordinator, itself among them; and the owner of the lock on an
  -- object
  pub part : SiteId → ℕ → Part
  pub owner : ObjId → Option Tid
  -- the marks that were journaled last
  pub durable_floor : ℕ
  pub visible_floor : ℕ
  -- the format that the records tell: the second behind the record that says so
  pub format : Format
  -- what each peer has said since the last boot: how many own commits it has, and how many are committed there; and how
  -- many of its own are durable
  pub acknowledged : SiteId → ℕ
  pub visible : SiteId → ℕ
  pub durable : SiteId → ℕ
  -- of each own slow commit, since the last boot: who said YES, the NO that ended it, and who said RELEASED
  pub said_yes : ℕ → List SiteId
  pub said_no : ℕ → Option Conflict
  pub said_released : ℕ → List SiteId

-- what a site knows before its first event
abbrev pub fresh : Knowledge
fresh = record {
  epoch = 0;
  starts = 0;
  log = [];
  got = λ k. 0;
  committed = λ k. 0;
  sessions = [];
  last = 0;
  slow = λ n. Unused;
  part = λ j n. Free;
  owner = λ oid. None;
  durable_floor = 0;
  visible_floor = 0;
  format = First;
  acknowledged = λ k. 0;
  visible = λ k. 0;
  durable = λ k. 0;
  said_yes = λ n. [];
  said_no = λ n. None;
  said_released = λ n. [];
}

abbrev pub session_of : Knowledge → ℕ → Option Session
session_of K client = session_in client K.sessions

-- the site at which an object is preferred: that of its container, and the first where there is none, which no update
-- names. It is read here alone, by what the site knows and the catalog.
abbrev pub preferred : Catalog → Knowledge → ObjId → SiteId
preferred catalog K oid = option_map_or (λ container. container.preferred) (get catalog.containers oid.container)
    (record { 0 = 0 })

abbrev pub site_at : ℕ → SiteId
site_at k = record { 0 = k }

-- all sites of the catalog, and those but this one
abbrev pub sites : Catalog → List SiteId
sites catalog = map site_at (range_with_len 0 catalog.sites)

abbrev pub peers : Catalog → SiteId → List SiteId
peers catalog i = filter (λ k. not (same_site k i)) (sites catalog)

-- the numbers from a first to a last one
abbrev pub from_to : ℕ → ℕ → List ℕ
from_to first last = range_with_len first (last + 1 - first)

-- how many transactions of each site are committed here, as a vector
abbrev pub vector_of : Catalog → Knowledge → List ℕ
vector_of catalog K = map K.committed (sites catalog)
