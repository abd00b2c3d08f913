-- What the building of a bench comes to, and what closing it gives.
use Rattle.std.specs.Prelude.{◌≡◌, ◌<◌, ◌≤◌, ℕ, List, [], length, map, slice_get, Option, Some, IfSome, Result, Ok, Err}
use Rattle.walter_cell.specs.Builds.{calls_once_begun}
use Rattle.walter_cell.specs.Cells.{CellValue}
use Rattle.walter_cell.specs.Lines.{LineValue, IsLine}
use Rattle.walter_cell.specs.Written.{AreWritten}
use Rattle.walter_disk.specs.declared.disk.Disk.{Ghosts}
use Rattle.walter_engine.specs.Begins.{HasOnly, IsBegun, IsFaultOfBegin, MayHaveBegun, HasNoRecord}
use Rattle.walter_scenario.specs.declared.scenario.Client.{Client}
use Rattle.walter_scenario.specs.declared.scenario.Scenario.{Scenario}
use Rattle.walter_cluster.specs.Benches.{BenchValue, IsLaidFor, disks_of, shape_of, trails_of}
use Rattle.walter_cluster.specs.declared.closing.Closed.{Closed}
use Rattle.walter_cluster.specs.declared.opening.Unbuilt.{Unbuilt}

-- each client's connection has read nothing of its bytes
abbrev pub AreUnread : List Client → List LineValue → Type 0
AreUnread clients conns = (number : ℕ) (client : Client) (line : LineValue)
    → slice_get clients number ≡ Some client → slice_get conns number ≡ Some line → IsLine client.bytes [] line

-- nothing was written to a client's connection but the bytes from before, where its sink tells what it holds
abbrev pub AreUnwritten : (ℕ → List ℕ) → List LineValue → Type 0
AreUnwritten before conns = (number : ℕ) (line : LineValue)
    → slice_get conns number ≡ Some line → AreWritten (before number) [] line.incoming.state line.sent

-- no disk was armed, where it tells that
abbrev pub AreUnarmed : {D : Type 0} → Ghosts D → List D → Type 0
AreUnarmed {D = D} g disks = (i : ℕ) (disk : D) → slice_get disks i ≡ Some disk
    → IfSome (g.known disk).arms (λ arms. arms ≡ [])

module _ {D : Type 0} (g : Ghosts D) (t : Scenario) where
  -- what the building leaves of the disk of a site, which it was given so
  pub record LeavesDisk (disk now : D) : Type 0 where
    pub images : (bytes : List ℕ) → HasOnly g bytes disk
        → (image : List ℕ) → g.may_leave now image
        → MayHaveBegun (shape_of t) t.areas bytes image
    pub faults : (g.known disk).faults ≤ (g.known now).faults
    pub arms : (g.known now).arms ≡ (g.known disk).arms

  -- where all sites begin, so many calls of each disk were made then
  abbrev pub AreCallsOnceBegun : List D → (ℕ → ℕ) → Type 0
  AreCallsOnceBegun disks calls = (i : ℕ) (disk : D) → slice_get disks i ≡ Some disk
      → calls i ≡ calls_once_begun g (shape_of t) t.areas disk

  -- and no record stood on the disk of any
  abbrev pub HadNoRecords : List D → Type 0
  HadNoRecords disks = (i : ℕ) (disk : D) (bytes : List ℕ) → slice_get disks i ≡ Some disk → HasOnly g bytes disk
      → HasNoRecord (shape_of t) bytes

  -- and the journal of each is laid out as the bytes of its disk say, or the scenario
  abbrev pub AreLaid : List D → List (CellValue D) → Type 0
  AreLaid disks cells = (i : ℕ) (disk : D) (c : CellValue D) (bytes : List ℕ) → slice_get disks i ≡ Some disk
      → slice_get cells i ≡ Some c → HasOnly g bytes disk → IsLaidFor t bytes c.node.layout

  -- where one doesn't, it is one of the sites, and its disk is why; or memory ran out. The sites before it began, and no
  -- call of their disks failed
  pub record IsWhyNone (disks : List D) (unbuilt : Unbuilt D) : Type 0 where
    pub there : unbuilt.site.0 < length disks
    pub why : (disk : D) (bytes : List ℕ) → slice_get disks unbuilt.site.0 ≡ Some disk → HasOnly g bytes disk
        → IsBegun (shape_of t) bytes (Err unbuilt.why)
    pub fault : (disk now : D) → slice_get disks unbuilt.site.0 ≡ Some disk
        → slice_get unbuilt.disks.items unbuilt.site.0 ≡ Some now
        → IsFaultOfBegin (Err unbuilt.why) (g.known disk).faults (g.known now).faults
    pub before : (i : ℕ) (disk : D) (bytes : List ℕ) → i < unbuilt.site.0 → slice_get disks i ≡ Some disk
        → HasOnly g bytes disk → HasNoRecord (shape_of t) bytes
    pub faultless : (i : ℕ) (disk now : D) → i < unbuilt.site.0 → slice_get disks i ≡ Some disk
        → slice_get unbuilt.disks.items i ≡ Some now → (g.known now).faults ≡ (g.known disk).faults
    pub all_back : length unbuilt.disks.items ≡ length disks

module _ {D : Type 0} where
  -- the disks of all sites, in the cells or given back
  abbrev pub disks_after : Result (BenchValue D) (Unbuilt D) → List (Option D)
  disks_after (Ok bench) = disks_of bench.cells
  disks_after (Err unbuilt) = map (λ (d : D). Some d) unbuilt.disks.items

  abbrev pub LeavesDisks : Ghosts D → Scenario → List D → Result (BenchValue D) (Unbuilt D) → Type 0
  LeavesDisks g t disks result = (i : ℕ) (disk : D) → slice_get disks i ≡ Some disk
      → (now : D) × (slice_get (disks_after result) i ≡ Some (Some now)) × LeavesDisk g t disk now

-- the disk, the trail and the connections of each cell, in order
pub record GivesBack {D S K : Type 0} (cells : List (CellValue D)) (closed : Closed D S K) : Type 0 where
  pub trails : closed.trails.items ≡ trails_of cells
  pub disks : map (λ (d : D). Some d) closed.disks.items ≡ disks_of cells
  pub lines : closed.remains.items ≡ map (λ (c : CellValue D). c.lines) cells
