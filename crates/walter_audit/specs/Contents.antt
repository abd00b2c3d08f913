-- What the journals of all sites hold, which records that spells, and which reason stands (docs/FORMATS.md, "Record";
-- docs/AUDIT.md, "Reasons").
use Rattle.std.specs.Prelude.{◌≡◌, ◌+◌, ◌<◌, ◌≤◌, ℕ, List, [], ◌∷◌, ◌++◌, map, take, length, reverse, Some, All}
use Rattle.walter_base.specs.declared.catalog.Catalog.{Catalog}
use Rattle.walter_base.specs.declared.format.Format.{Format}
use Rattle.walter_base.specs.declared.format.Format.TheVariants.{First}
use Rattle.walter_base.specs.declared.message.Record.{Record}
use Rattle.walter_base.specs.declared.message.Record.TheVariants.{Got, Format as FormatRecord}
use Rattle.walter_base.specs.declared.names.SiteId.{SiteId}
use Rattle.walter_record.specs.Spelling.{record_spelled, HasRecordSpelling}
use Rattle.walter_rules.specs.declared.entry.Entry.{Entry}
use Rattle.walter_rules.specs.Knowledge.{fresh}
use Rattle.walter_rules.specs.Layouts.{Layout, Placed, placed, header_of}
use Rattle.walter_rules.specs.Merges.{merge}
use Rattle.walter_rules.specs.Records.{CanAllFollow}
use Rattle.walter_rules.specs.Standing.{Standing}
use Rattle.walter_runs.specs.Runs.{stands, AreRightTrails}
use Rattle.walter_audit.specs.declared.finding.Named.{Named}
use Rattle.walter_audit.specs.declared.finding.Reason.{Reason}
use Rattle.walter_audit.specs.declared.finding.Reason.TheVariants.{Unreadable, Missing, Differs, Twice, Start, Conflict, Cycle}
use Rattle.walter_audit.specs.Journals.{Journals}
use Rattle.walter_audit.specs.Orders.{IsCycle}
use Rattle.walter_audit.specs.Reasons.{IsMissing, IsDifferent, AreTwice, IsUnstarted, AreUnordered}

-- what a site's journal holds: the format that its header names, and its bodies
pub record Content : Type 0 where
  pub header : Format
  pub bodies : List (List ℕ)

-- of each site
abbrev pub Contents : Type 0
Contents = SiteId → Content

abbrev pub content_of : Format → List (List ℕ) → Content
content_of header bodies = record { header = header; bodies = bodies }

-- its first bodies alone
abbrev pub front_of : ℕ → Content → Content
front_of n content = record { header = content.header; bodies = take n content.bodies }

-- a record as it is spelled at its place, and whether it has such a spelling
abbrev pub spelled_there : Placed → List ℕ
spelled_there it = record_spelled it.0 it.1

abbrev pub HasSpellingThere : ℕ → Placed → Type 0
HasSpellingThere sites it = HasRecordSpelling it.0 sites it.1

-- the bodies spell these records, each in the format in force at its place
pub record AreSpelled (catalog : Catalog) (content : Content) (records : List Record) : Type 0 where
  pub is : content.bodies ≡ map spelled_there (placed content.header records)
  pub can : All (HasSpellingThere catalog.sites) (placed content.header records)

-- a commit that was received, with the site that it was received of in its transaction's name: whether that site made
-- just this one is asked where what was received is compared with what was made
abbrev pub as_sent : Record → Record
as_sent (Got j seq tx) = Got j seq (record tx { tid = record tx.tid { site = j } })
as_sent rec = rec

-- a record that changes the format in force stands where that is the first
abbrev pub CanStandIn : Record → Format → Type 0
CanStandIn FormatRecord format = format ≡ First
CanStandIn rec format = Unit {0}

abbrev pub CanStand : Placed → Type 0
CanStand it = CanStandIn it.1 it.0

-- the bodies spell these records, each of which can follow those before it
pub record AreRead (catalog : Catalog) (i : SiteId) (content : Content) (records : List Record) : Type 0 where
  pub spelled : AreSpelled catalog content records
  pub follow : CanAllFollow catalog i fresh (map as_sent records)
  pub formats : All CanStand (placed content.header records)

-- the bodies before this place can be read, and with the one at this place they can't
pub record IsUnreadable (catalog : Catalog) (i : SiteId) (content : Content) (index : ℕ) : Type 0 where
  pub within : index < length content.bodies
  pub records : List Record
  pub before : AreRead catalog i (front_of index content) records
  pub wrong : (more : List Record) → ¬ AreRead catalog i (front_of (index + 1) content) more

-- the bodies of all sites can be read
pub record AreAllRead (catalog : Catalog) (contents : Contents) (journals : Journals) : Type 0 where
  pub each : (i : SiteId) → i.0 < catalog.sites → AreRead catalog i (contents i) (journals i)
  pub no_others : (i : SiteId) → catalog.sites ≤ i.0 → journals i ≡ []

-- the reason stands, of these records
abbrev pub Stands : Catalog → Contents → Reason → Named → Named → Type 0
Stands catalog contents Unreadable a b =
    (a ≡ b) × (a.site.0 < catalog.sites) × IsUnreadable catalog a.site (contents a.site) a.index
Stands catalog contents Missing a b =
    (a ≡ b) × ((journals : Journals) × AreAllRead catalog contents journals × IsMissing journals a)
Stands catalog contents Differs a b =
    (journals : Journals) × AreAllRead catalog contents journals × IsDifferent journals a b
Stands catalog contents Twice a b =
    (journals : Journals) × AreAllRead catalog contents journals × AreTwice journals a b
Stands catalog contents Start a b =
    (a ≡ b) × ((journals : Journals) × AreAllRead catalog contents journals × IsUnstarted catalog journals a)
Stands catalog contents Conflict a b =
    (journals : Journals) × AreAllRead catalog contents journals × AreUnordered journals a b
Stands catalog contents Cycle a b =
    (journals : Journals) × AreAllRead catalog contents journals × IsCycle catalog journals a b

-- the records that the journal of a site that stands so may have: all that are stable, with the one in flight or
-- without
pub data MayHold (S : Standing) : List Record → Type 0 where
  holds_stable : MayHold S S.records
  holds_flight : (rec : Record) → S.flight ≡ Some rec → MayHold S (S.records ++ rec ∷ [])

-- the contents are what right and linked trails leave
pub record AreLeft (catalog : Catalog) (layouts : SiteId → Layout) (trails : List (List Entry))
    (contents : Contents) : Type 0 where
  pub right : AreRightTrails catalog layouts trails
  pub headers : (i : SiteId) → i.0 < catalog.sites → (contents i).header ≡ header_of (layouts i)
  pub records : Journals
  pub held : (i : SiteId) → i.0 < catalog.sites → MayHold (stands catalog (reverse (merge trails)) i) (records i)
  pub spelled : (i : SiteId) → i.0 < catalog.sites → AreSpelled catalog (contents i) (records i)
