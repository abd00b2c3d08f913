-- What an audit by the program promises, on one page.
use Rattle.std.specs.Prelude.{◌≡◌, ◌≢◌, ◌<◌, ◌⊎◌, ℕ, List, [], Option, Some, None, IfSome, false}
use Rattle.walter_audit.specs.Contents.{Content, Contents, AreLeft}
use Rattle.walter_audit.specs.Findings.{IsFound}
use Rattle.walter_audit.specs.declared.finding.Finding.{Finding}
use Rattle.walter_audit.specs.declared.finding.Finding.TheVariants.{Yes, No}
use Rattle.walter_base.specs.declared.names.SiteId.{SiteId}
use Rattle.walter_checkpoint.specs.Areas.{IsForeign}
use Rattle.walter_checkpoint.specs.Faults.{IsDamagedBook}
use Rattle.walter_disk.specs.Disks.{DiskState}
use Rattle.walter_disk.specs.Images.{Only}
use Rattle.walter_inspect.specs.Findings.{finding_text}
use Rattle.walter_inspect.specs.Inspections.{IsContentOf}
use Rattle.walter_rules.specs.declared.entry.Entry.{Entry}
use Rattle.walter_rules.specs.Knowledge.{site_at}
use Rattle.walter_rules.specs.Layouts.{Layout}
use Rattle.walter_scenario.specs.declared.place.Detail.{Detail}
use Rattle.walter_scenario.specs.declared.place.Place.{Place}
use Rattle.walter_scenario.specs.declared.scenario.Scenario.{Scenario}
use Rattle.walter_scenario.specs.Scenarios.{IsReading, IsRefusedAt}
use Rattle.walter_stream.specs.Streams.{Appends, AppendsFront}
use Rattle.walter_cli.specs.declared.ended.Ended.{Ended}
use Rattle.walter_cli.specs.declared.ended.Fault.TheVariants as fault
use Rattle.walter_cli.specs.declared.ended.JournalCause.{JournalCause}
use Rattle.walter_cli.specs.declared.ended.JournalCause.TheVariants.{Foreign, Damaged, Used}
use Rattle.walter_cli.specs.Headline.{Outside}
use Rattle.walter_cli.specs.Racks.{Racked, AreAllTold, Holds, HasFailed, IsFaultlessBefore, IsUnarmed, FailsToTake, FailsToGive}
use Rattle.walter_cli.specs.Sources.{HasNoReading, IsTaken}
use Rattle.walter_cli.specs.Statuses.{status_of}

-- ---- the disks

-- the disk of a site is as it was taken: it has no arm, where it tells its arms; and where it tells its bytes, a crash
-- leaves just those that it held, and it reads them, unless a call on it has failed
pub record IsKept (rack : Racked) (i : ℕ) (known : DiskState) (images : List ℕ → Type 0) : Type 0 where
  pub unarmed : IsUnarmed known images
  pub only : Holds rack i (λ bytes. Only bytes images)
  pub reads : known.broken ≡ false → Holds rack i (λ bytes. known.reads ≡ Some bytes)

-- the bytes are a journal with this content, of so many sites as the scenario has
abbrev pub HasContentOf : Scenario → Content → List ℕ → Type 0
HasContentOf s content bytes = IsContentOf s.capacity s.catalog.sites bytes content

abbrev pub CanBeRead : Scenario → List ℕ → Type 0
CanBeRead s bytes = (content : Content) × HasContentOf s content bytes

-- why they can't be read, and at which place that stands: they are no journal, as no bytes are, or a damaged one
abbrev pub CannotBeRead : Scenario → JournalCause → ℕ → List ℕ → Type 0
CannotBeRead s Foreign place bytes = (place ≡ 0) × IsForeign s.capacity s.catalog.sites bytes
CannotBeRead s (Damaged claimed) place bytes = IsDamagedBook s.capacity s.catalog.sites bytes place claimed
CannotBeRead s Used place bytes = ⊥

-- the first of the scenario's sites whose disk has bytes that can't be read, and why
pub record IsFirstUnreadable (rack : Racked) (s : Scenario) (site : ℕ) (cause : JournalCause) (place : ℕ)
    : Type 0 where
  pub unreadable : Holds rack site (CannotBeRead s cause place)
  pub others : (i : ℕ) → i < site → Holds rack i (CanBeRead s)

-- all disks were taken, and that of this site failed when it was read; those of the sites before it did not, and could be
-- read
pub record FailsToRead (rack : Racked) (s : Scenario) (site : ℕ) : Type 0 where
  pub all : rack.took s.catalog.sites
  pub failed : rack.one site HasFailed
  pub before : rack.each (IsFaultlessBefore site)
  pub others : (i : ℕ) → i < site → Holds rack i (CanBeRead s)

-- all disks could be read, and that of this site is the first that was not given back
pub record FailsBehind (rack : Racked) (s : Scenario) (site : ℕ) : Type 0 where
  pub give : FailsToGive rack site
  pub read : (i : ℕ) → i < s.catalog.sites → Holds rack i (CanBeRead s)

-- the disk of this site ended the audit
abbrev pub IsAuditRackFault : Racked → Scenario → ℕ → Type 0
IsAuditRackFault rack s site = FailsToTake rack site ⊎ FailsToRead rack s site ⊎ FailsBehind rack s site

-- a disk that was given back is as it was taken, reads, and holds this content, where it tells its bytes
pub record IsDiskOfAudit (rack : Racked) (s : Scenario) (contents : Contents) (i : ℕ) (known : DiskState)
    (images : List ℕ → Type 0) : Type 0 where
  pub kept : IsKept rack i known images
  pub whole : known.broken ≡ false
  pub content : IfSome known.reads (HasContentOf s (contents (site_at i)))

-- ---- what was found

abbrev pub SaysYes : Finding → Type 0
SaysYes (Yes order) = Unit {0}
SaysYes (No reason a b) = ⊥

abbrev pub SaysNo : Finding → Type 0
SaysNo (Yes order) = ⊥
SaysNo (No reason a b) = Unit {0}

-- All disks of the scenario's sites were given back, and hold these contents. The finding is right of them, and no no
-- where they are what right and linked trails leave; and what was written of it is so.
pub record IsAudited (rack : Racked) (s : Scenario) (Says : Finding → Type 0) (Written : List ℕ → Type 0)
    : Type 0 where
  pub contents : Contents
  pub disks : rack.all s.catalog.sites (IsDiskOfAudit rack s contents)
  pub held : (i : ℕ) → i < s.catalog.sites → Holds rack i (HasContentOf s (contents (site_at i)))
  pub finding : Finding
  pub says : Says finding
  pub right : IsFound s.catalog contents finding
  pub never : (layouts : SiteId → Layout) (trails : List (List Entry)) → AreLeft s.catalog layouts trails contents
      → SaysYes finding
  pub bytes_written : Written (finding_text s.catalog.sites finding)

-- the scenario that the bytes spell that were taken from the source, to its end, is so
pub record OfReading (before after : Outside) (P : Scenario → Type 0) : Type 0 where
  pub scenario : Scenario
  pub taken : IsTaken before.left after.left scenario
  pub holds : P scenario

-- ---- the promise

pub record AuditPromise (rack : Racked) (before after : Outside) (ended : Ended) : Type 0 where
  -- the status is the fault's; where there is none it is 0 or 8
  pub status : (ended.status ≡ status_of ended.fault) ⊎ ((ended.status ≡ 8) × (ended.fault ≡ None))
  -- 0: a yes was found, and its text written. 8: a no
  pub yes : ended.status ≡ 0 → OfReading before after (λ s. IsAudited rack s SaysYes (Appends before.holds after.holds))
  pub no : ended.status ≡ 8 → OfReading before after (λ s. IsAudited rack s SaysNo (Appends before.holds after.holds))
  -- 1 never comes
  pub usage : ended.status ≢ 1
  -- 2: the bytes spell no scenario, and the place that is named is the first that is wrong
  pub unreadable : (place : Place) (detail : Detail) → ended.fault ≡ Some (fault.Scenario place detail)
      → HasNoReading before.left after.left place
  -- 3: the source failed
  pub unread : ended.status ≡ 3 → before.source_faults < after.source_faults
  -- 4: the sink failed, with a front written of the text of what was found
  pub cut : ended.status ≡ 4 → OfReading before after
      (λ s. IsAudited rack s (λ finding. Unit {0}) (AppendsFront before.holds after.holds))
  pub failed : ended.status ≡ 4 → before.sink_faults < after.sink_faults
  -- 6: the disk of the site that is named could not be taken, or failed when it was read, or could not be given back; it is
  -- the first of these
  pub unracked : (site : ℕ) → ended.fault ≡ Some (fault.Rack site)
      → OfReading before after (λ s. (site < s.catalog.sites) × IsAuditRackFault rack s site)
  -- 7: the disk of the site that is named has no journal, or a damaged one, where it tells what it has; those of the sites
  -- before it can be read, and have not failed; that a disk has records is never the cause
  pub unfit : (site : ℕ) (cause : JournalCause) (place : ℕ) → ended.fault ≡ Some (fault.Journal site cause place)
      → OfReading before after (λ s. (site < s.catalog.sites) × IsFirstUnreadable rack s site cause place
      × rack.each (IsFaultlessBefore site) × (cause ≢ Used))
  -- and exactly then, where all disks are told and were taken, the source doesn't fail, and no disk does
  pub unfit_named : (s : Scenario) (bytes : List ℕ) (site : ℕ) (cause : JournalCause) (place : ℕ)
      → before.left ≡ Some bytes → IsReading bytes s → site < s.catalog.sites → AreAllTold rack s.catalog.sites
      → IsFirstUnreadable rack s site cause place → after.source_faults ≡ before.source_faults
      → rack.took s.catalog.sites
      → (ended.fault ≡ Some (fault.Journal site cause place)) ⊎ (ended.status ≡ 5) ⊎ ((i : ℕ) × rack.one i HasFailed)
  -- whatever the status, each disk that was taken was handed back as it was taken, and given back but for one at most for
  -- each fault of the rack; and one of which two calls for each site don't fail doesn't
  pub kept : rack.each (IsKept rack)
  pub given_back : rack.balanced
  pub unfailing : rack.unfailing 32 → ¬ rack.failed
  -- but for 0, 4 and 8 nothing is written; and there are no trails
  pub silent : ended.status ≢ 0 → ended.status ≢ 4 → ended.status ≢ 8 → after.holds ≡ before.holds
  pub no_trails : ended.trails.items ≡ []
  -- where nothing fails, the bytes spell a scenario, and all disks tell journals that can be read, the status is 0 or 8;
  -- where the source's bytes are to be read and are wrong at a place it is 2 with this place; or it is 5 for want of memory
  pub complete : (s : Scenario) (bytes : List ℕ) → before.left ≡ Some bytes → IsReading bytes s
      → AreAllTold rack s.catalog.sites → ((i : ℕ) → i < s.catalog.sites → Holds rack i (CanBeRead s))
      → after.source_faults ≡ before.source_faults → after.sink_faults ≡ before.sink_faults → ¬ rack.failed
      → (ended.status ≡ 0) ⊎ (ended.status ≡ 8) ⊎ (ended.status ≡ 5) ⊎ ((i : ℕ) × rack.one i HasFailed)
  pub refuses : (bytes : List ℕ) (place : Place) → before.left ≡ Some bytes → IsRefusedAt bytes place
      → after.source_faults ≡ before.source_faults
      → ((detail : Detail) × (ended.fault ≡ Some (fault.Scenario place detail))) ⊎ (ended.status ≡ 5)
