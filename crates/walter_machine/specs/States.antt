-- How a site stands, apart from where its records lie.
use Rattle.std.specs.Prelude.{◌≡◌, ◌<◌, ◌≤◌, ℕ, Bool, true, false, Option, Some, None, IfSome, All}
use Rattle.walter_base.specs.declared.catalog.Catalog.{Catalog}
use Rattle.walter_base.specs.declared.message.Record.{Record}
use Rattle.walter_base.specs.declared.names.SiteId.{SiteId}
use Rattle.walter_rules.specs.declared.event.Event.{Event}
use Rattle.walter_rules.specs.Kinds.{IfDelivery}
use Rattle.walter_rules.specs.Knowledge.{fresh}
use Rattle.walter_rules.specs.Learning.{lost}
use Rattle.walter_rules.specs.Records.{CanFollow, CanAllFollow, IsRecordAmong, replayed}
use Rattle.walter_rules.specs.Standing.{Standing}
use Rattle.walter_site.specs.Members.{Knows, IsSizedPacket}
use Rattle.walter_tables.specs.declared.tables.Tables.{Tables}
use Rattle.walter_tables.specs.Sites.{site_of, catalog_of}

-- a packet that comes can be spelled among so many sites
abbrev pub IsSizedEvent : ℕ → Event → Type 0
IsSizedEvent sites event = IfDelivery (λ from number packet. IsSizedPacket sites packet) event

-- a site that is up knows this, and no record is in flight
pub record IsUp (S : Standing) (tables : Tables) : Type 0 where
  pub up : S.up ≡ true
  pub knows : Knows tables S.knows
  pub settled : S.flight ≡ None

-- it is up with its tables, or down without
abbrev pub IsState : Standing → Option Tables → Type 0
IsState S None = S.up ≡ false
IsState S (Some tables) = IsUp S tables

-- the tables are this site's
abbrev pub IsOf : Catalog → SiteId → Tables → Type 0
IsOf catalog i tables = (site_of tables ≡ i) × (catalog_of tables ≡ catalog)

-- There is memory for what the fall of a site leaves: whoever was lost before is in the debts, and its record has a
-- place in flight.
pub record IsRoom (has_lost : Bool) (places : ℕ) : Type 0 where
  pub unlost : has_lost ≡ false
  pub enough : 1 ≤ places

-- the record has the sizes of one among so many sites, and can stand behind what the site knows
pub record CanBeNext (catalog : Catalog) (i : SiteId) (S : Standing) (rec : Record) : Type 0 where
  pub sizes : IsRecordAmong catalog.sites rec
  pub follows : CanFollow catalog i S.knows rec

-- The records of a site tell what it knows but for its open transactions, of which one that is down has none. Each can
-- stand behind those before it, and the one in flight behind all.
pub record AreTold (catalog : Catalog) (i : SiteId) (S : Standing) : Type 0 where
  pub sizes : All (IsRecordAmong catalog.sites) S.records
  pub follow : CanAllFollow catalog i fresh S.records
  pub tell : lost S.knows ≡ replayed catalog i fresh S.records
  pub in_flight : IfSome S.flight (CanBeNext catalog i S)
  pub booted : S.up ≡ true → 0 < S.knows.epoch
  pub rests : S.up ≡ false → lost S.knows ≡ S.knows
