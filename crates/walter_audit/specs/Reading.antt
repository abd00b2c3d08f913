-- How the bodies of a journal are read, one by one (docs/AUDIT.md, "How it is found").
use Rattle.std.specs.Prelude.{◌≡◌, ◌<◌, ℕ, List, [], Option, Some, None, map, slice_get}
use Rattle.walter_base.specs.declared.catalog.Catalog.{Catalog}
use Rattle.walter_base.specs.declared.format.Format.{Format}
use Rattle.walter_base.specs.declared.format.Format.TheVariants.{First}
use Rattle.walter_base.specs.declared.message.Record.{Record}
use Rattle.walter_record.specs.Spelling.{record_spelled, HasRecordSpelling}
use Rattle.walter_rules.specs.Knowledge.{Knowledge}
use Rattle.walter_rules.specs.Learning.{recorded}
use Rattle.walter_rules.specs.Records.{CanFollow}
use Rattle.walter_tables.specs.declared.replay.ReplayFault.{ReplayFault}
use Rattle.walter_tables.specs.declared.replay.ReplayFault.TheVariants.{Unfit, NoMemory}
use Rattle.walter_tables.specs.declared.tables.Tables.{Tables}
use Rattle.walter_tables.specs.Sites.{site_of, catalog_of, Stands}
use Rattle.walter_audit.specs.declared.content.Content.{Content as Kept}
use Rattle.walter_audit.specs.declared.finding.Named.{Named}
use Rattle.walter_audit.specs.Contents.{Content, Contents, content_of, as_sent, CanStandIn, IsUnreadable}

-- what a site's journal holds, and those of all sites, from the first one on
abbrev pub held : Kept → Content
held kept = content_of kept.header (map (λ body. body.items) kept.bodies.items)

abbrev pub held_if : Option Kept → Content
held_if None = content_of First []
held_if (Some kept) = held kept

abbrev pub contents_of : List Kept → Contents
contents_of all k = held_if (slice_get all k.0)

-- a catalog of the same sites and containers: what can follow doesn't ask how many sites may be lost
abbrev pub tolerating : Catalog → ℕ → Catalog
tolerating catalog t = record catalog { tolerated = t }

-- the body spells the record in this format, and a record that changes the format stands in the first
pub record Spells (sites : ℕ) (format : Format) (body : List ℕ) (rec : Record) : Type 0 where
  pub has : HasRecordSpelling format sites rec
  pub is : body ≡ record_spelled format rec
  pub stands : CanStandIn rec format

-- it spells none; or there was no memory
abbrev pub SpellsNone : ℕ → Format → List ℕ → ReplayFault → Type 0
SpellsNone sites format body Unfit = (rec : Record) → ¬ Spells sites format body rec
SpellsNone sites format body NoMemory = Unit {0}

-- the body spells a record that can follow what the tables stand for, and behind it they stand for what is known then
pub record Takes (old : Tables) (format : Format) (body : List ℕ) (rec : Record) (new : Tables) : Type 0 where
  pub spells : Spells (catalog_of old).sites format body rec
  pub follows : (K : Knowledge) → Stands old K → CanFollow (catalog_of old) (site_of old) K (as_sent rec)
  pub leaves : (K : Knowledge) → Stands old K
      → Stands new (recorded (catalog_of old) (site_of old) (Some (as_sent rec)) K)

-- it spells none that can follow; or there was no memory
abbrev pub IsUnfit : Tables → Format → List ℕ → ReplayFault → Type 0
IsUnfit old format body Unfit = (K : Knowledge) → Stands old K → (rec : Record)
    → Spells (catalog_of old).sites format body rec → ¬ CanFollow (catalog_of old) (site_of old) K (as_sent rec)
IsUnfit old format body NoMemory = Unit {0}

-- a body of a site that can't be read
abbrev pub IsUnreadableAt : Catalog → Contents → Named → Type 0
IsUnreadableAt catalog contents a =
    (a.site.0 < catalog.sites) × IsUnreadable catalog a.site (contents a.site) a.index
