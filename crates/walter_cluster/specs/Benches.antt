-- What contracts see of the cells of all sites, and what holds of them between two events.
use Rattle.std.specs.Prelude.{◌≡◌, ◌<◌, ◌≤◌, ℕ, Bool, true, false, List, [], length, map, slice_get, slice_index_or, Vec, vec_capacity, Option, Some, None, All}
use Rattle.std.specs.declared.alloc.Global.{Global}
use Rattle.walter_base.specs.declared.names.SiteId.{SiteId}
use Rattle.walter_base.specs.Names.{same_site}
use Rattle.walter_base.specs.Vectors.{most_sites}
use Rattle.walter_cell.specs.Builds.{IsOfCapacity}
use Rattle.walter_cell.specs.Cells.{CellValue}
use Rattle.walter_cell.specs.Cells as cell
use Rattle.walter_cell.specs.Lines.{LineValue, is_here, IsLineAt}
use Rattle.walter_cell.specs.Nodes.{arms_under, calls_under, capacity_of, is_told, places_in}
use Rattle.walter_cell.specs.Written.{AreWrittenAt}
use Rattle.walter_checkpoint.specs.Areas.{Shape, shape_by}
use Rattle.walter_disk.specs.Disks.{Arming}
use Rattle.walter_disk.specs.declared.disk.Disk.{Ghosts}
use Rattle.walter_engine.specs.Begins.{IsLaidOver}
use Rattle.walter_engine.specs.Engines.{layout_for}
use Rattle.walter_lane.specs.Lanes.{Sending, Receiving}
use Rattle.walter_outbox.specs.Lanes.{arrived_from, met_to, ring_to, ring_from}
use Rattle.walter_rules.specs.declared.entry.Entry.{Entry}
use Rattle.walter_rules.specs.Knowledge.{site_at}
use Rattle.walter_rules.specs.Layouts.{Layout}
use Rattle.walter_scenario.specs.declared.scenario.Client.{Client}
use Rattle.walter_scenario.specs.declared.scenario.Scenario.{Scenario}
use Rattle.walter_trail.specs.Calls.{calls_of}

-- whether a client's home is this site
abbrev pub is_site : Option SiteId → SiteId → Bool
is_site None i = false
is_site (Some home) i = same_site home i

abbrev pub is_home : List SiteId → ℕ → SiteId → Bool
is_home homes client i = is_site (slice_get homes client) i

-- the cells, by the numbers of their sites, and the site of each client
pub record BenchValue (D : Type 0) : Type 0 where
  pub cells : List (CellValue D)
  pub homes : List SiteId

-- how a new book lies on the disk of a site
abbrev pub shape_of : Scenario → Shape
shape_of t = shape_by t.capacity t.catalog.sites t.format

-- how the journal of a site is laid out that begins over a disk of no bytes
abbrev pub layout_of : Scenario → Layout
layout_of t = layout_for t.areas t.capacity t.catalog.sites t.format

-- so the journal of a site is laid out that begins over a disk with these bytes: over none as the scenario says, else as
-- they are
pub record IsLaidFor (t : Scenario) (bytes : List ℕ) (layout : Layout) : Type 0 where
  pub sized : IsOfCapacity t.capacity t.catalog.sites layout
  pub laid : IsLaidOver bytes (layout_of t) layout

-- there are as many elements, and of what each was and became it is so
pub record EachBecomes {X : Type 0} (R : (old new : X) → Type 0) (old new : List X) : Type 0 where
  pub long : length new ≡ length old
  pub each : (i : ℕ) (before after : X) → slice_get old i ≡ Some before → slice_get new i ≡ Some after → R before after

module _ {D : Type 0} where
  abbrev pub trails_of : List (CellValue D) → List (List Entry)
  trails_of cells = map (λ (c : CellValue D). c.node.trail) cells

  abbrev pub outs_at : List (CellValue D) → ℕ → List Sending
  outs_at cells i = slice_index_or (map (λ (c : CellValue D). c.node.outs) cells) i []

  abbrev pub ins_at : List (CellValue D) → ℕ → List Receiving
  ins_at cells i = slice_index_or (map (λ (c : CellValue D). c.ins) cells) i []

  abbrev pub lines_at : List (CellValue D) → ℕ → List (Option LineValue)
  lines_at cells i = slice_index_or (map (λ (c : CellValue D). c.lines) cells) i []

  -- the disks of cells
  abbrev pub disks_of : List (CellValue D) → List (Option D)
  disks_of cells = map (λ (c : CellValue D). c.node.disk) cells

  -- P holds of each cell, with its site
  abbrev pub AtEach : List (CellValue D) → (SiteId → CellValue D → Type 0) → Type 0
  AtEach cells P = (i : ℕ) (c : CellValue D) → slice_get cells i ≡ Some c → P (site_at i) c

  -- a cell stands at its site, with a lane to and from each, and with the connections of just the clients that are at home
  -- there
  pub record IsCellAt (sites : ℕ) (homes : List SiteId) (i : SiteId) (c : CellValue D) : Type 0 where
    pub site : c.node.site ≡ i
    pub sites_are : c.node.catalog.sites ≡ sites
    pub outs : length c.node.outs ≡ sites
    pub ins : length c.ins ≡ sites
    pub here : (client : ℕ) → is_here c.lines client ≡ is_home homes client i

  -- the cells are those of sites 0, 1 and so on; between each two sites lies one lane, which has both its ends there; and
  -- each client is at home at one of the sites
  pub record IsBench (bench : BenchValue D) : Type 0 where
    pub few : length bench.cells ≤ most_sites
    pub cells : AtEach bench.cells (λ i c. IsCellAt (length bench.cells) bench.homes i c)
    pub lanes : (to from : ℕ) → to < length bench.cells → from < length bench.cells
        → ring_to (outs_at bench.cells from) to ≡ ring_from (ins_at bench.cells to) from
    pub within : All (λ (home : SiteId). home.0 < length bench.cells) bench.homes

  -- what has arrived at a site is what had been put for it when the ends of the lane last met: nothing arrives but so
  abbrev pub AreMet : BenchValue D → Type 0
  AreMet bench = (to from : ℕ)
      → met_to (outs_at bench.cells from) to ≡ length (arrived_from (ins_at bench.cells to) from)

  -- ---- a bench of a scenario

  -- its sites and its clients are the scenario's, and so is how many bytes a journal has at most
  pub record IsOf (t : Scenario) (bench : BenchValue D) : Type 0 where
    pub sites : length bench.cells ≡ t.catalog.sites
    pub catalogs : AtEach bench.cells (λ i c. c.node.catalog ≡ t.catalog)
    pub capacities : AtEach bench.cells (λ i c. capacity_of c.node.layout ≡ t.capacity)
    pub homes : bench.homes ≡ map (λ (client : Client). client.site) t.clients

  -- each site's trail has had memory for as many entries as the scenario asks for
  abbrev pub AreRoomy : Scenario → BenchValue D → Type 0
  AreRoomy t bench = AtEach bench.cells (λ i c. t.room ≤ places_in c.node)

  -- of the bytes of each client of the site the calls in the trail were read
  abbrev pub AreConnected : Scenario → SiteId → CellValue D → Type 0
  AreConnected t i c = (number : ℕ) (client : Client) → slice_get t.clients number ≡ Some client → client.site ≡ i
      → IsLineAt client.bytes (calls_of number c.node.trail) c.lines number

  -- where the sources of all clients tell their bytes
  abbrev pub AreAllConnected : Scenario → BenchValue D → Type 0
  AreAllConnected t bench = AtEach bench.cells (λ i c. AreConnected t i c)

  -- the replies to the calls of each client of the site were written to its connection, behind the bytes from before
  abbrev pub AreAnswered : Scenario → (ℕ → List ℕ) → SiteId → CellValue D → Type 0
  AreAnswered t before i c = (number : ℕ) (client : Client) → slice_get t.clients number ≡ Some client
      → client.site ≡ i → AreWrittenAt (before number) number c.node.trail c.lines

  -- so were the replies to all clients, where their sinks tell what they hold
  abbrev pub AreAllAnswered : Scenario → (ℕ → List ℕ) → BenchValue D → Type 0
  AreAllAnswered t before bench = AtEach bench.cells (λ i c. AreAnswered t before i c)

  module _ (g : Ghosts D) where
    -- the arms of a site's disk, where it tells them
    abbrev pub arms_at : List (CellValue D) → ℕ → Option (List Arming)
    arms_at cells i = slice_index_or (map (λ (c : CellValue D). arms_under g c.node.disk) cells) i None

    -- how many calls of it were made that an arm counts
    abbrev pub calls_at : List (CellValue D) → ℕ → ℕ
    calls_at cells i = slice_index_or (map (λ (c : CellValue D). calls_under g c.node.disk) cells) i 0

    -- the disk of a site tells what it holds
    abbrev pub IsToldAt : ℕ → BenchValue D → Type 0
    IsToldAt i bench = (c : CellValue D) → slice_get bench.cells i ≡ Some c → is_told g c.node.disk ≡ true

    -- each cell keeps what a call of a cell keeps
    abbrev pub EachKeeps : (old new : List (CellValue D)) → Type 0
    EachKeeps old new = EachBecomes (cell.Keeps g) old new

    -- what each call keeps: the cells so, the homes of clients, and that nothing arrives but where the ends of a lane meet
    pub record Keeps (old new : BenchValue D) : Type 0 where
      pub cells : EachKeeps old.cells new.cells
      pub homes : new.homes ≡ old.homes
      pub met : AreMet old → AreMet new

-- a list without elements has room for so many
pub record HasRoom {X : Type 0} (count : ℕ) (list : Vec X Global) : Type 0 where
  pub none : list.items ≡ []
  pub room : count ≤ vec_capacity list
