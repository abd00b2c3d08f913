-- How far the own commits are durable, and visible, by what a site knows (docs/SITE.md, "Durable and visible").
use Rattle.std.specs.Prelude.{ℕ, zero, suc, ◌+◌, nat_eq, nat_le, max, Bool, true, ◌&&◌, ◌||◌, count_by, if◌then◌else◌}
use Rattle.std.specs.List.{list_all}
use Rattle.std.specs.Option.{option_map_or}
use Rattle.walter_base.specs.declared.catalog.Catalog.{Catalog}
use Rattle.walter_base.specs.declared.names.SiteId.{SiteId}
use Rattle.walter_base.specs.declared.transaction.Tx.{Tx}
use Rattle.walter_base.specs.Names.{same_site}
use Rattle.walter_base.specs.Values.{object_of}
use Rattle.walter_rules.specs.Knowledge.{Knowledge, preferred, sites, peers}
use Rattle.walter_rules.specs.Log.{commit_at}

-- how many numbers from 1 on, up to a most, pass one after another
abbrev pub passed : (ℕ → Bool) → ℕ → ℕ
passed test zero = 0
passed test (suc n) = if nat_eq (passed test n) n && test (suc n) then suc n else passed test n

-- own commit q is held by this site, and by each peer that has acknowledged it
abbrev pub holds : SiteId → Knowledge → ℕ → SiteId → Bool
holds i K q site = same_site site i || nat_le q (K.acknowledged site)

-- at the preferred site of each object that the transaction changed, sets too
abbrev pub is_at_homes : Catalog → SiteId → Knowledge → ℕ → Tx → Bool
is_at_homes catalog i K q tx = list_all (λ update. holds i K q (preferred catalog K (object_of update))) tx.updates

-- own commit q is held by more sites than may be lost, those preferred sites among them
abbrev pub is_held : Catalog → SiteId → Knowledge → ℕ → Bool
is_held catalog i K q =
    nat_le (catalog.tolerated + 1) (count_by (holds i K q) (sites catalog))
    && option_map_or (is_at_homes catalog i K q) (commit_at i q K.log) true

-- each peer has called the own commits up to m visible
abbrev pub is_visible : Catalog → SiteId → Knowledge → ℕ → Bool
is_visible catalog i K m = list_all (λ k. nat_le m (K.visible k)) (peers catalog i)

-- the durable mark: as many own commits as are held one after another, and never below the floor
abbrev pub durable_mark : Catalog → SiteId → Knowledge → ℕ
durable_mark catalog i K = max K.durable_floor (passed (is_held catalog i K) (K.committed i))

-- the visible mark: as many as every peer has called visible, and never below the floor
abbrev pub visible_mark : Catalog → SiteId → Knowledge → ℕ
visible_mark catalog i K = max K.visible_floor (passed (is_visible catalog i K) (K.committed i))
