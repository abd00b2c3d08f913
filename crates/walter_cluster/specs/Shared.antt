-- What stays of the cells of a bench while they are shared, and what holds of each whenever its lock is free.
use Rattle.std.specs.Prelude.{◌≡◌, ◌≤◌, ℕ, Bool, true, List, length, map, slice_get, Option, Some, None}
use Rattle.walter_base.specs.declared.names.SiteId.{SiteId}
use Rattle.walter_base.specs.Vectors.{most_sites}
use Rattle.walter_cell.specs.Cells.{CellValue}
use Rattle.walter_cell.specs.Lines.{is_here, IsLineAt}
use Rattle.walter_cell.specs.Nodes.{arms_under, is_told, places_in}
use Rattle.walter_cell.specs.Written.{AreWrittenAt}
use Rattle.walter_disk.specs.Disks.{Arming}
use Rattle.walter_disk.specs.declared.disk.Disk.{Ghosts}
use Rattle.walter_link.specs.Pumps.{PumpValue, taken_from}
use Rattle.walter_outbox.specs.Lanes.{arrived_from, in_rings, out_rings}
use Rattle.walter_rules.specs.Knowledge.{site_at}
use Rattle.walter_scenario.specs.declared.scenario.Scenario.{Scenario}
use Rattle.walter_trail.specs.Calls.{calls_of}
use Rattle.walter_work.specs.Working.{IsWorking}
use Rattle.walter_cluster.specs.Benches.{BenchValue, IsOf}
use Rattle.walter_cluster.specs.Pumps.{ArePumps}

-- what a cell was before it was shared, without its disk; whether that tells what it holds, and its arms, where it tells
-- them; and the scenario by which the site works
pub record Origin : Type 0 where
  pub cell : CellValue (Unit {0})
  pub told : Bool
  pub arms : Option (List Arming)
  pub scenario : Scenario

-- a cell without its disk
abbrev pub bare : {D : Type 0} → CellValue D → CellValue (Unit {0})
bare c = record {
  node = record {
    catalog = c.node.catalog;
    site = c.node.site;
    layout = c.node.layout;
    disk = None;
    trail = c.node.trail;
    outs = c.node.outs;
    room = c.node.room;
  };
  ins = c.ins;
  lines = c.lines;
}

-- the bench that these cells were of
abbrev pub bench_before : List Origin → List SiteId → BenchValue (Unit {0})
bench_before origins homes = record { cells = map (λ (o : Origin). o.cell) origins; homes = homes }

-- a cell with its pump
pub record HeldValue (D : Type 0) : Type 0 where
  pub cell : CellValue D
  pub pump : PumpValue

module _ {D : Type 0} (g : Ghosts D) where
  abbrev pub origin_of : Scenario → CellValue D → Origin
  origin_of t c = record {
    cell = bare c;
    told = is_told g c.node.disk;
    arms = arms_under g c.node.disk;
    scenario = t;
  }

  abbrev pub origins_of : Scenario → List (CellValue D) → List Origin
  origins_of t cells = map (origin_of t) cells

  -- A cell has gone on from what it was: it is the same site's, over the same kind of disk, with its lanes and its clients,
  -- with the same arms, and with as many places for entries at least. Of the bytes of a client the calls in the trail were
  -- read, where they were; and what it is sent are the replies to its calls in the trail, behind what was there.
  pub record HasGoneOn (o : Origin) (c : CellValue D) : Type 0 where
    pub catalog : c.node.catalog ≡ o.cell.node.catalog
    pub site : c.node.site ≡ o.cell.node.site
    pub layout : c.node.layout ≡ o.cell.node.layout
    pub told : is_told g c.node.disk ≡ o.told
    pub arms : arms_under g c.node.disk ≡ o.arms
    pub outs : out_rings c.node.outs ≡ out_rings o.cell.node.outs
    pub places : places_in o.cell.node ≤ places_in c.node
    pub ins : in_rings c.ins ≡ in_rings o.cell.ins
    pub more : (from : ℕ) → length (arrived_from o.cell.ins from) ≤ length (arrived_from c.ins from)
    pub here : (client : ℕ) → is_here c.lines client ≡ is_here o.cell.lines client
    pub connected : (client : ℕ) (bytes : List ℕ)
        → IsLineAt bytes (calls_of client o.cell.node.trail) o.cell.lines client
        → IsLineAt bytes (calls_of client c.node.trail) c.lines client
    pub answered : (client : ℕ) (first : List ℕ) → AreWrittenAt first client o.cell.node.trail o.cell.lines
        → AreWrittenAt first client c.node.trail c.lines

  -- the cell and the pump of a site work, by the scenario
  pub record IsAtWork (t : Scenario) (i : SiteId) (cell : CellValue D) (pump : PumpValue) : Type 0 where
    pub catalog : cell.node.catalog ≡ t.catalog
    pub site : cell.node.site ≡ i
    pub ins : length cell.ins ≡ t.catalog.sites
    pub few : t.catalog.sites ≤ most_sites
    pub pump_site : pump.site ≡ i
    pub senders : length pump.senders ≡ t.catalog.sites
    pub taken : (from : ℕ) → taken_from pump from ≤ length (arrived_from cell.ins from)
    pub working : IsWorking (is_told g cell.node.disk ≡ true) t i cell.node.trail pump

  -- what holds of the cell of a site and its pump whenever its lock is free
  pub record IsHeld (origins : List Origin) (i : ℕ) (held : HeldValue D) : Type 0 where
    pub origin : Origin
    pub there : slice_get origins i ≡ Some origin
    pub gone_on : HasGoneOn origin held.cell
    pub works : IsAtWork origin.scenario (site_at i) held.cell held.pump

  -- so it is with each of these cells and the pump at its place
  abbrev pub AreHeld : List Origin → List (CellValue D) → List PumpValue → Type 0
  AreHeld origins cells pumps = (i : ℕ) (c : CellValue D) (p : PumpValue) → slice_get cells i ≡ Some c
      → slice_get pumps i ≡ Some p → IsHeld origins i (record { cell = c; pump = p })

  -- The sites of a bench of a scenario work, each with the pump at its place.
  pub record CanWork (t : Scenario) (bench : BenchValue D) (pumps : List PumpValue) : Type 0 where
    pub of : IsOf t bench
    pub are : ArePumps bench.cells pumps
    pub working : (i : ℕ) (c : CellValue D) (p : PumpValue) → slice_get bench.cells i ≡ Some c
        → slice_get pumps i ≡ Some p
        → IsWorking (is_told g c.node.disk ≡ true) t (site_at i) c.node.trail p
