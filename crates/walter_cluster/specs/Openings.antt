-- What a bench is made of beside its disks, and what holds while its sites begin one after another.
use Rattle.std.specs.Prelude.{◌≡◌, ◌≤◌, ℕ, List, [], length, map, slice_get, vec_capacity, Option, Some}
use Rattle.walter_base.specs.declared.names.SiteId.{SiteId}
use Rattle.walter_cell.specs.Cells.{CellValue, HasBegun}
use Rattle.walter_cell.specs.Lines.{LineValue}
use Rattle.walter_cell.specs.Nodes.{places_in}
use Rattle.walter_disk.specs.declared.disk.Disk.{Ghosts}
use Rattle.walter_engine.specs.Begins.{HasOnly, HasNoRecord}
use Rattle.walter_lane.specs.Lanes.{Sending, Receiving}
use Rattle.walter_rules.specs.Knowledge.{site_at}
use Rattle.walter_scenario.specs.declared.scenario.Client.{Client}
use Rattle.walter_scenario.specs.declared.scenario.Scenario.{Scenario}
use Rattle.walter_cluster.specs.declared.opening.Parts.{Parts}
use Rattle.walter_cluster.specs.declared.opening.Room.{Room}
use Rattle.walter_cluster.specs.Benches.{BenchValue, shape_of}
use Rattle.walter_cluster.specs.Builds.{LeavesDisk}
use Rattle.walter_cluster.specs.Lanes.{AreJoined, rows_in, columns_in, row_of, column_of}
use Rattle.walter_cluster.specs.Seats.{lists_in, list_of, HavePlaces, AreSeated, AreAtHome}

module _ {D S K : Type 0} where
  -- lists without elements, with room for so many
  pub record HasPlaces (sites : ℕ) (room : Room D S K) : Type 0 where
    pub no_cells : room.cells.items ≡ []
    pub no_trails : room.trails.items ≡ []
    pub no_disks : room.disks.items ≡ []
    pub no_remains : room.remains.items ≡ []
    pub for_cells : sites ≤ vec_capacity room.cells
    pub for_trails : sites ≤ vec_capacity room.trails
    pub for_disks : sites ≤ vec_capacity room.disks
    pub for_remains : sites ≤ vec_capacity room.remains

  -- the ends of all lanes, lists with the connections of the clients of each site, the homes of these, and room for what the
  -- bench has
  pub record ArePrepared (t : Scenario) (conns : List LineValue) (parts : Parts D S K) : Type 0 where
    pub conns_long : length conns ≡ length t.clients
    pub joined : AreJoined t.catalog.sites t.catalog.sites (rows_in parts.rows.items) (columns_in parts.columns.items)
    pub places : HavePlaces t.catalog.sites (length t.clients) (lists_in parts.lists.items)
    pub seated : AreSeated (length t.clients) t.clients conns (lists_in parts.lists.items)
    pub alone : AreAtHome t.clients (lists_in parts.lists.items)
    pub homes : parts.homes.items ≡ map (λ (client : Client). client.site) t.clients
    pub room : HasPlaces t.catalog.sites parts.room

module _ {D : Type 0} (g : Ghosts D) where
  -- the first sites began with their disks, the ends of their lanes and their connections, in order. No record stood on any
  -- of the disks, and none failed.
  pub record HasBegunAt (t : Scenario) (i : ℕ) (disk : D) (row : List Sending) (column : List Receiving)
      (list : List (Option LineValue)) (c : CellValue D) : Type 0 where
    pub begun : HasBegun g t.catalog t.capacity t.areas t.format (site_at i) disk row column list c
    pub had_none : (bytes : List ℕ) → HasOnly g bytes disk → HasNoRecord (shape_of t) bytes
    pub now : D
    pub now_is : c.node.disk ≡ Some now
    pub leaves : LeavesDisk g t disk now
    pub faultless : (g.known now).faults ≡ (g.known disk).faults
    pub room : t.room ≤ places_in c.node

  pub record HaveBegun (t : Scenario) (disks : List D) (rows : List (List Sending)) (columns : List (List Receiving))
      (lists : List (List (Option LineValue))) (count : ℕ) (cells : List (CellValue D)) : Type 0 where
    pub long : length cells ≡ count
    pub each : (i : ℕ) (disk : D) (c : CellValue D) → slice_get disks i ≡ Some disk → slice_get cells i ≡ Some c
        → HasBegunAt t i disk (row_of rows i) (column_of columns i) (list_of lists i) c

  -- all of them did, and the bench has their cells
  pub record IsBegunBench (t : Scenario) (disks : List D) (rows : List (List Sending)) (columns : List (List Receiving))
      (lists : List (List (Option LineValue))) (homes : List SiteId) (bench : BenchValue D) : Type 0 where
    pub begun : HaveBegun t disks rows columns lists t.catalog.sites bench.cells
    pub homes_are : bench.homes ≡ homes
