-- The records of a trail, and what they tell.
use Rattle.std.specs.Prelude.{◌≡◌, ◌+◌, ◌<◌, ◌^◌, List, [], ◌∷◌, ◌++◌, flat_map, length, Option, Some, None, All}
use Rattle.walter_base.specs.declared.catalog.Catalog.{Catalog}
use Rattle.walter_base.specs.declared.message.Record.{Record}
use Rattle.walter_base.specs.declared.names.SiteId.{SiteId}
use Rattle.walter_rules.specs.declared.entry.Entry.{Entry}
use Rattle.walter_rules.specs.Knowledge.{fresh}
use Rattle.walter_rules.specs.Records.{CanAllFollow, IsRecordAmong, replayed}
use Rattle.walter_tables.specs.Sites.{site_of, catalog_of, Stands}
use Rattle.walter_world.specs.declared.replaying.Recovery.{Recovery}

-- the record of an option, if there is one
abbrev pub one_of : Option Record → List Record
one_of None = []
one_of (Some rec) = rec ∷ []

-- the records of a trail: of each entry what was kept, then what was written
abbrev pub records_of : List Entry → List Record
records_of trail = flat_map (λ (e : Entry). one_of e.came.kept ++ one_of e.came.wrote) trail

-- each can stand behind those before it
pub record CanBeReplayed (catalog : Catalog) (i : SiteId) (records : List Record) : Type 0 where
  pub follow : CanAllFollow catalog i fresh records
  pub sizes : All (IsRecordAmong catalog.sites) records

-- these records tell it; and one more can be counted
pub record IsTold (catalog : Catalog) (i : SiteId) (records : List Record) (told : Recovery) : Type 0 where
  pub stands : Stands told.tables (replayed catalog i fresh records)
  pub site : site_of told.tables ≡ i
  pub catalog_is : catalog_of told.tables ≡ catalog
  pub count : told.count ≡ length records
  pub countable : told.count + 1 < 2 ^ 64
