-- What the parts of a call of the program come to.
use Rattle.std.specs.Prelude.{◌≡◌, ◌<◌, ◌≤◌, ◌⊎◌, ◌^◌, ℕ, All, List, [], ◌++◌, Option, Some, None, IsSome, IfSome, length, slice_get}
use Rattle.walter_cell.specs.Cells.{CellValue}
use Rattle.walter_cluster.specs.Benches.{BenchValue, IsLaidFor, IsOf, IsToldAt, AreAllConnected, AreMet, arms_at, calls_at, shape_of}
use Rattle.walter_cluster.specs.Builds.{AreCallsOnceBegun}
use Rattle.walter_cluster.specs.Moments.{IsFirst, Moment, moment_of}
use Rattle.walter_disk.specs.declared.disk.Disk.{Ghosts}
use Rattle.walter_engine.specs.Begins.{HasNoRecord}
use Rattle.walter_engine.specs.declared.answers.BeginFault.{BeginFault}
use Rattle.walter_engine.specs.declared.answers.BeginFault.TheVariants as unbegun
use Rattle.walter_rules.specs.declared.entry.Entry.{Entry}
use Rattle.walter_base.specs.Sizes.{most_in}
use Rattle.walter_linked.specs.Catalogs.{IsWhole}
use Rattle.walter_play.specs.Scripts.{AreArmedFirst, EndsPlay, arms_of}
use Rattle.walter_scenario.specs.Parts.{IsArm, IsStep, IsAreas, IsCapacity, IsThreads}
use Rattle.walter_scenario.specs.declared.scenario.Client.{Client}
use Rattle.walter_scenario.specs.declared.scenario.Scenario.{Scenario}
use Rattle.walter_stream.specs.Streams.{Appends, AppendsFront}
use Rattle.walter_work.specs.Driven.{IsDriven}
use Rattle.walter_cli.specs.declared.ended.Fault.{Fault}
use Rattle.walter_cli.specs.declared.ended.Fault.TheVariants.{Usage, Scenario as ScenarioFault, Read, Write, Memory, Rack, Journal}
use Rattle.walter_cli.specs.declared.ended.JournalCause.TheVariants.{Foreign, Damaged, Used}
use Rattle.walter_cli.specs.Disks.{AreTaken}
use Rattle.walter_cli.specs.Headline.{IsRun, ArmsOfSites, IsWholeRun, OfText, IsDiskOfWhole, IsRackFault, IsFirstUnfit}
use Rattle.walter_cli.specs.Racks.{RackAt, Racked, IsUntouched, IsFaultlessBefore, FailsToTake, FailsToLoad}
use Rattle.walter_cli.specs.Sources.{HasNoReading}
use Rattle.walter_words.specs.declared.asked.Command.{Command}
use Rattle.walter_words.specs.declared.asked.Command.TheVariants.{Play, Run, Load, Audit, Say}

-- why no scenario was taken from a source that had failed so often, and has now
abbrev pub IsTakeFault : Option (List ℕ) → Option (List ℕ) → ℕ → ℕ → Fault → Type 0
IsTakeFault before after faults faults' (ScenarioFault place detail) = HasNoReading before after place
IsTakeFault before after faults faults' Read = faults < faults'
IsTakeFault before after faults faults' Memory = Unit {0}
IsTakeFault before after faults faults' fault = ⊥

-- why none was posed: of what is read, so; of what is made, want of memory, and nothing was read
abbrev pub IsPoseFault : Command → Option (List ℕ) → Option (List ℕ) → ℕ → ℕ → Fault → Type 0
IsPoseFault (Play trace disks) before after faults faults' fault = IsTakeFault before after faults faults' fault
IsPoseFault (Run trace disks) before after faults faults' fault = IsTakeFault before after faults faults' fault
IsPoseFault (Load seed calls) before after faults faults' fault = (fault ≡ Memory) × (after ≡ before)
IsPoseFault (Audit disks) before after faults faults' fault = ⊥
IsPoseFault (Say text) before after faults faults' fault = ⊥

-- a scenario that can be played: its sites are few, and fewer may be lost; its containers, clients, arms and steps are of
-- these sites; its clients can be numbered, and its threads made; and a journal has place for an epoch in each of its areas
pub record IsPlayable (s : Scenario) : Type 0 where
  pub some : 0 < s.catalog.sites
  pub few : s.catalog.sites ≤ most_in s.format
  pub fewer : s.catalog.tolerated < s.catalog.sites
  pub whole : IsWhole s.catalog
  pub within : All (λ (client : Client). client.site.0 < s.catalog.sites) s.clients
  pub clients : length s.clients < 2 ^ 32
  pub threads : IsThreads s.threads
  pub capacity : IsCapacity s.capacity
  pub areas : IsAreas s.areas s.capacity
  pub arms : All (IsArm s.catalog.sites) s.arms
  pub steps : All (IsStep s.catalog.sites (length s.clients)) s.steps

-- threads take no steps, so there are none where they drive
abbrev pub HasStepsFor : Command → Scenario → Type 0
HasStepsFor (Play trace disks) s = Unit {0}
HasStepsFor (Run trace disks) s = s.steps ≡ []
HasStepsFor (Load seed calls) s = Unit {0}
HasStepsFor (Audit disks) s = ⊥
HasStepsFor (Say text) s = ⊥

-- the sites of a scenario were driven from this moment to that one: by all its steps; or by threads, behind its arms
abbrev pub Drives : Command → (told : ℕ → Type 0) → Scenario → (old new : Moment) → Type 0
Drives (Play trace disks) told s old new = EndsPlay told s old new
Drives (Run trace disks) told s old new = IsDriven told ⊥ s new.trails
    × AreArmedFirst old new (s.arms ++ arms_of s.steps)
Drives (Load seed calls) told s old new = EndsPlay told s old new
Drives (Audit disks) told s old new = ⊥
Drives (Say text) told s old new = ⊥

-- a text was written, or a front of it
abbrev pub EndsText : List ℕ → (holds holds' : Option (List ℕ)) → (faults faults' : ℕ) → Option Fault → Type 0
EndsText text holds holds' faults faults' None = Appends holds holds' text
EndsText text holds holds' faults faults' (Some Write) = AppendsFront holds holds' text × (faults < faults')
EndsText text holds holds' faults faults' (Some fault) = ⊥

-- the fault of a run whose site did not begin
abbrev pub fault_of : ℕ → BeginFault → Fault
fault_of site unbegun.Failed = Rack site
fault_of site unbegun.Foreign = Journal site Foreign 0
fault_of site (unbegun.Damaged at length) = Journal site (Damaged length) at
fault_of site unbegun.Used = Journal site Used 8
fault_of site unbegun.NoMemory = Memory

-- the sites were built over the disks that were taken from the rack
pub record IsBuilt {D : Type 0} (g : Ghosts D) (before after : RackAt D) (t : Scenario) (bench : BenchValue D)
    : Type 0 where
  pub disks : List D
  pub many : length disks ≡ t.catalog.sites
  pub taken : AreTaken g before after disks
  pub no_records : (i : ℕ) (disk : D) → slice_get disks i ≡ Some disk
      → IfSome (g.known disk).reads (HasNoRecord (shape_of t))
  pub laid : (i : ℕ) (disk : D) (c : CellValue D) → slice_get disks i ≡ Some disk → slice_get bench.cells i ≡ Some c
      → IfSome (g.known disk).reads (λ bytes. IsLaidFor t bytes c.node.layout)
  pub of : IsOf t bench
  pub told : (i : ℕ) (disk : D) → slice_get disks i ≡ Some disk → IsSome (g.known disk).reads → IsToldAt g i bench
  pub connected : AreAllConnected t bench
  pub met : AreMet bench
  pub first : IsFirst t.catalog.sites (moment_of g bench.cells)
  pub arms : (i : ℕ) (disk : D) → slice_get disks i ≡ Some disk
      → arms_at g bench.cells i ≡ (g.known disk).arms
  pub calls : AreCallsOnceBegun g t disks (calls_at g bench.cells)

-- why the sites of a scenario were not built over the disks of a rack: one could not be taken, or failed, or it has what no site can
-- begin with; or memory ran out
abbrev pub IsUnbuilt : Racked → Scenario → Fault → Type 0
IsUnbuilt rack s Memory = Unit {0}
IsUnbuilt rack s (Rack site) = (site < s.catalog.sites) × (FailsToTake rack site ⊎ FailsToLoad rack s site)
IsUnbuilt rack s (Journal site cause place) =
    (site < s.catalog.sites) × IsFirstUnfit rack s site cause place × rack.each (IsFaultlessBefore site)
IsUnbuilt rack s fault = ⊥

-- the rack is as no run has begun, and what was taken of it was handed back, and given back but for what it lost by a fault
pub record EndsEarly (rack : Racked) (s : Scenario) (fault : Fault) : Type 0 where
  pub why : IsUnbuilt rack s fault
  pub untouched : IsUntouched rack s
  pub given_back : rack.balanced
  pub unfailing : rack.unfailing 32 → ¬ rack.failed

-- there are no trails, and no run began; or they are those of a run
abbrev pub MayHaveRun : Racked → Scenario → List (List Entry) → Type 0
MayHaveRun rack s trails = ((trails ≡ []) × IsUntouched rack s) ⊎ IsRun rack s trails

-- it is a whole run, and all disks were given back
abbrev pub IsWholeBack : Racked → Command → Scenario → List (List Entry) → Type 0
IsWholeBack rack command s trails = (arms : ArmsOfSites) × IsWholeRun rack command s trails arms
    × rack.all s.catalog.sites (λ i. IsDiskOfWhole rack s trails arms i)

-- what a run over a sink comes to: its trails, and what was written of its report
abbrev pub EndsRun : Racked → Command → Scenario → (holds holds' : Option (List ℕ)) → (faults faults' : ℕ)
    → List (List Entry) → Option Fault → Type 0
EndsRun rack command s holds holds' faults faults' trails None =
    IsWholeBack rack command s trails × OfText rack command s trails (Appends holds holds')
EndsRun rack command s holds holds' faults faults' trails (Some Write) =
    IsWholeBack rack command s trails × OfText rack command s trails (AppendsFront holds holds') × (faults < faults')
EndsRun rack command s holds holds' faults faults' trails (Some Memory) =
    MayHaveRun rack s trails × (holds' ≡ holds)
EndsRun rack command s holds holds' faults faults' trails (Some (Rack site)) =
    (site < s.catalog.sites) × IsRackFault rack command s trails site × (holds' ≡ holds)
EndsRun rack command s holds holds' faults faults' trails (Some (Journal site cause place)) =
    ((trails ≡ []) × IsUntouched rack s) × (holds' ≡ holds) × (site < s.catalog.sites)
    × IsFirstUnfit rack s site cause place × rack.each (IsFaultlessBefore site)
EndsRun rack command s holds holds' faults faults' trails (Some (Usage text)) = ⊥
EndsRun rack command s holds holds' faults faults' trails (Some (ScenarioFault place detail)) = ⊥
EndsRun rack command s holds holds' faults faults' trails (Some Read) = ⊥

-- why a text was not written whole
abbrev pub IsWriteFault : List ℕ → (holds holds' : Option (List ℕ)) → (faults faults' : ℕ) → Fault → Type 0
IsWriteFault text holds holds' faults faults' Write = AppendsFront holds holds' text × (faults < faults')
IsWriteFault text holds holds' faults faults' Memory = holds' ≡ holds
IsWriteFault text holds holds' faults faults' fault = ⊥
