-- What a user of the program may rest on: a call over disks in memory, which tell what they hold and fail only
-- where the scenario arms them. Nothing here has a premise on disks.
use Rattle.std.specs.Prelude.{◌≡◌, ◌≢◌, ◌<◌, ◌+◌, ◌⊎◌, ℕ, List, [], count_by, map, replicate, Some, String, string_bytes}
use Rattle.std.specs.Global.{Global}
use Rattle.walter_checkpoint.specs.Loads.{calls_of_load}
use Rattle.walter_cluster.specs.Benches.{shape_of}
use Rattle.walter_disk_memory.specs.MemoryRacks.{RackState, rack_of}
use Rattle.walter_disk_memory.specs.contracts.memory_disk.MemoryDiskDisk.TheImpl.{ghosts as disk_ghosts}
use Rattle.walter_disk_memory.specs.contracts.memory_rack.MemoryRackRack.TheImpl.{ghosts as rack_ghosts}
use Rattle.walter_machine.specs.Comings.{is_faulty}
use Rattle.walter_play.specs.Scripts.{all_arms}
use Rattle.walter_rules.specs.declared.entry.Entry.{Entry}
use Rattle.walter_scenario.specs.declared.place.Detail.{Detail}
use Rattle.walter_scenario.specs.declared.place.Place.{Place}
use Rattle.walter_scenario.specs.declared.scenario.Scenario.{Scenario}
use Rattle.walter_scenario.specs.Scenarios.{IsRefusedAt}
use Rattle.walter_stream.specs.Streams.{Appends, AppendsFront}
use Rattle.walter_cli.specs.declared.ended.Ended.{Ended}
use Rattle.walter_cli.specs.declared.ended.Fault.TheVariants as fault
use Rattle.walter_cli.specs.Headline.{Outside, Says, AreCallsOf, AreTold, ArmsOfSites, HasNotBegun, IsDiskOfRun, IsDiskOfWhole, IsDrivenBy, trail_at}
use Rattle.walter_cli.specs.Racks.{Racked, rack_at, racked}
use Rattle.walter_cli.specs.Statuses.{status_of}
use Rattle.walter_cli.specs.Sources.{HasNoReading}
use Rattle.walter_cli.specs.Words.{Asks, AskForNone, IsForText, IsPosed, IsRead, IsWrong, Poses, written_by}
use Rattle.walter_words.specs.Words.{AsksForText}
use Rattle.walter_words.specs.declared.asked.Command.{Command}
use Rattle.walter_words.specs.declared.asked.Command.TheVariants.{Load}

-- what is known of a rack in memory that was made for a call, with room for sixteen disks
abbrev pub in_memory : RackState → Racked
in_memory rack = racked disk_ghosts (rack_at rack_ghosts (rack_of [] 32)) (rack_at rack_ghosts rack)

-- the trails of the sites of the scenario that is posed: they are right and linked, and spell a legal
-- history; each call is one of its client's, in order; no call of a disk failed at a site where the scenario arms
-- nothing; and the disks of all sites were given back, each that of its trail
pub record IsSureRun (words : List (String Global)) (rack : Racked) (before after : Outside)
    (trails : List (List Entry)) : Type 0 where
  pub command : Command
  pub asked : Asks command words
  pub scenario : Scenario
  pub posed : IsPosed command before.left after.left scenario
  pub whose_calls : AreCallsOf scenario.clients trails
  pub tells : AreTold rack scenario trails
  pub unarmed : (i : ℕ) → i < scenario.catalog.sites → all_arms scenario i ≡ []
      → count_by (λ e. is_faulty e.came.outcome) (trail_at trails i) ≡ 0
  pub disks : rack.all scenario.catalog.sites (λ i. IsDiskOfRun rack scenario trails i)

-- how many calls of a disk without bytes had been made once a site had begun over it: those of its load, and of a record
abbrev pub calls_begun_anew : Scenario → ℕ
calls_begun_anew s = calls_of_load (shape_of s) s.areas 0 + 4

-- it was driven to its end from where all sites had begun, which armed the disks so, each disk has all its arms, and what was
-- written of it is so: all journals are new, so their headers name the scenario's format
pub record IsSureReport (words : List (String Global)) (rack : Racked) (before after : Outside)
    (trails : List (List Entry)) (Written : List ℕ → Type 0) : Type 0 where
  pub run : IsSureRun words rack before after trails
  pub arms : ArmsOfSites
  pub calls : ℕ → ℕ
  pub calls_begun : (i : ℕ) → i < run.scenario.catalog.sites → calls i ≡ calls_begun_anew run.scenario
  pub how_driven : IsDrivenBy run.command (λ i. Unit {0}) run.scenario calls trails arms
  pub disks : rack.all run.scenario.catalog.sites (λ i. IsDiskOfWhole rack run.scenario trails arms i)
  pub bytes_written : Written (written_by run.command run.scenario
      (replicate run.scenario.catalog.sites run.scenario.format) trails)

pub record Assures (words : List (String Global)) (rack : Racked) (before after : Outside) (ended : Ended)
    : Type 0 where
  pub status : ended.status ≡ status_of ended.fault
  -- 0: what a whole run is to write was written, or a text where no run is asked for
  pub written : ended.status ≡ 0
      → IsSureReport words rack before after ended.trails.items (Appends before.holds after.holds)
      ⊎ Says words rack before after ended.trails.items (Appends before.holds after.holds)
  -- 1: only where the words ask for no run, and then it is 1, or a text is said, or memory is wanting
  pub usage : ended.status ≡ 1 → AskForNone words × IsWrong (map string_bytes words)
  pub unasked : AskForNone words → (ended.status ≡ 1) ⊎ (ended.status ≡ 5)
      ⊎ ((ended.status ≡ 0) ⊎ (ended.status ≡ 4)) × IsForText (map string_bytes words)
  pub texts : AsksForText (map string_bytes words) → ended.status ≢ 1
  -- 2: the bytes spell no scenario, and the place that is named is the first that is wrong
  pub unreadable : (place : Place) (detail : Detail) → ended.fault ≡ Some (fault.Scenario place detail)
      → HasNoReading before.left after.left place
  -- 3: the source failed. 4: the sink did, with a front written
  pub unread : ended.status ≡ 3 → before.source_faults < after.source_faults
  pub cut : ended.status ≡ 4
      → (IsSureReport words rack before after ended.trails.items (AppendsFront before.holds after.holds)
      ⊎ Says words rack before after ended.trails.items (AppendsFront before.holds after.holds))
      × (before.sink_faults < after.sink_faults)
  -- where the scenario is made, the source is as it was: nothing was asked of it
  pub unasked_source : (seed calls : ℕ) → Asks (Load seed calls) words
      → (after.left ≡ before.left) × (after.source_faults ≡ before.source_faults) × (ended.status ≢ 3)
  -- 6 and 7 never come: disks in memory begin, and are given back
  pub never_unracked : ended.status ≢ 6
  pub never_unfit : ended.status ≢ 7
  -- whatever the status, each disk that was taken was handed back, and the trails are those of a run; or there are none,
  -- and no run began. But for 0 and 4 nothing is written
  pub given_back : rack.balanced
  pub legal_trails : ((ended.trails.items ≡ []) × HasNotBegun words rack before after)
      ⊎ IsSureRun words rack before after ended.trails.items
  pub silent : ended.status ≢ 0 → ended.status ≢ 4 → after.holds ≡ before.holds
  -- where source and sink don't fail, the scenario that is posed is run, and bytes to be read that spell none are refused
  -- at their place; or it is 5, for want of memory
  pub complete : (command : Command) (s : Scenario) → Asks command words → Poses command before.left s
      → after.source_faults ≡ before.source_faults → after.sink_faults ≡ before.sink_faults
      → (ended.status ≡ 0) ⊎ (ended.status ≡ 5)
  pub refuses : (command : Command) (bytes : List ℕ) (place : Place) → Asks command words → IsRead command
      → before.left ≡ Some bytes → IsRefusedAt bytes place → after.source_faults ≡ before.source_faults
      → ((detail : Detail) × (ended.fault ≡ Some (fault.Scenario place detail))) ⊎ (ended.status ≡ 5)
