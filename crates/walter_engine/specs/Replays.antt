-- What the bodies of a journal make of a site.
use Rattle.std.specs.Prelude.{◌≡◌, ◌≢◌, ◌+◌, ℕ, false, List, Some, None}
use Rattle.walter_base.specs.declared.catalog.Catalog.{Catalog}
use Rattle.walter_base.specs.declared.format.Format.{Format}
use Rattle.walter_base.specs.declared.message.Record.{Record}
use Rattle.walter_base.specs.declared.message.Record.TheVariants.{Boot}
use Rattle.walter_base.specs.declared.names.SiteId.{SiteId}
use Rattle.walter_machine.specs.declared.ready.Ready.{Ready}
use Rattle.walter_machine.specs.Readiness.{rec_in, IsReadyFor, IsReadyAnyway}
use Rattle.walter_record.specs.Spelling.{record_spelled}
use Rattle.walter_tables.specs.declared.replay.ReplayFault.{ReplayFault}
use Rattle.walter_tables.specs.declared.replay.ReplayFault.TheVariants.{Unfit, NoMemory}
use Rattle.walter_tables.specs.declared.tables.Tables.{Tables}
use Rattle.walter_tables.specs.Sites.{values_of, site_of, catalog_of, Stands}
use Rattle.walter_rules.specs.Knowledge.{Knowledge, fresh}
use Rattle.walter_rules.specs.Layouts.{in_force}
use Rattle.walter_rules.specs.Learning.{recorded}
use Rattle.walter_rules.specs.Records.{CanFollow, replayed}
use Rattle.walter_rules.specs.declared.event.Event.TheVariants.{Restart}
use Rattle.walter_rules.specs.Standing.{Standing}
use Rattle.walter_engine.specs.Contents.{CanStandIn}
use Rattle.walter_engine.specs.Effects.{Tell}

-- the format in force behind a header, and behind the records that tell these tables
abbrev pub format_in : Format → Tables → Format
format_in header tables = in_force header (values_of tables).format

-- the body spells a record in the format in force that can follow, which leaves this
pub record Takes (header : Format) (old : Tables) (body : List ℕ) (new : Tables) : Type 0 where
  pub rec : Record
  pub stands : CanStandIn (format_in header old) (catalog_of old).sites rec
  pub is : body ≡ record_spelled (format_in header old) rec
  pub follows : (K : Knowledge) → Stands old K → CanFollow (catalog_of old) (site_of old) K rec
  pub leaves : (K : Knowledge) → Stands old K → Stands new (recorded (catalog_of old) (site_of old) (Some rec) K)

-- it spells none that can follow
abbrev pub SpellsNone : Format → Catalog → SiteId → Knowledge → List ℕ → Type 0
SpellsNone header catalog i K body =
    let format = in_force header K.format in
    (rec : Record) → CanStandIn format catalog.sites rec → body ≡ record_spelled format rec
    → ¬ CanFollow catalog i K rec

abbrev pub IsUnfit : Format → Tables → List ℕ → ReplayFault → Type 0
IsUnfit header old body Unfit =
    (K : Knowledge) → Stands old K → SpellsNone header (catalog_of old) (site_of old) K body
IsUnfit header old body NoMemory = Unit {0}

-- the bodies tell what the tables stand for
pub record Tells (header : Format) (catalog : Catalog) (i : SiteId) (bodies : List (List ℕ)) (tables : Tables) : Type 0 where
  pub records : List Record
  pub tell : Tell header catalog i bodies records
  pub stands : Stands tables (replayed catalog i fresh records)

-- a restart is ready behind these bodies, which leave it an epoch; its record is to be in this format
pub record IsReadyOver (header : Format) (catalog : Catalog) (i : SiteId) (bodies : List (List ℕ)) (ready : Ready)
    (format : Format) : Type 0 where
  pub records : List Record
  pub tell : Tell header catalog i bodies records
  pub anyway : IsReadyAnyway catalog i None Restart ready
  pub ready_for : (header : Format) (S : Standing) → S.up ≡ false → replayed catalog i fresh records ≡ S.knows
      → IsReadyFor header catalog i None S Restart ready
  pub boots : rec_in ready ≡ Some (Boot ((replayed catalog i fresh records).epoch + 1))
  pub left : (replayed catalog i fresh records).epoch ≢ 4294967295
  pub told : format ≡ in_force header (replayed catalog i fresh records).format
