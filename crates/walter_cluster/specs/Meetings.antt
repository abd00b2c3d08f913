-- What meetings of lanes' ends leave of the cells of all sites, and what they bring.
use Rattle.std.specs.Prelude.{◌≡◌, ◌≢◌, ◌<◌, ◌≤◌, ◌⊎◌, ℕ, List, length, map, slice_get, Some, All}
use mathlib.Core.List.{IsPrefix}
use Rattle.walter_cell.specs.Cells.{CellValue}
use Rattle.walter_machine.specs.Comings.{IsSized}
use Rattle.walter_cell.specs.Nodes.{IsSameButLanes}
use Rattle.walter_lane.specs.declared.posted.Posted.{Posted}
use Rattle.walter_outbox.specs.Lanes.{put_to, arrived_from, met_to, posted, ring_to, ring_from, out_rings, in_rings}
use Rattle.walter_rules.specs.declared.entry.Entry.{Entry}
use Rattle.walter_rules.specs.Knowledge.{site_at}
use Rattle.walter_rules.specs.Merges.{put_out_to}
use Rattle.walter_cluster.specs.Benches.{BenchValue, EachBecomes, outs_at, ins_at}
use Rattle.walter_cluster.specs.Moments.{trail_at}

module _ {D : Type 0} where
  -- what a site has put for another, what has arrived there of it, and how much of it had been put when the ends of the
  -- lane last met
  abbrev pub put_at : List (CellValue D) → (from to : ℕ) → List Posted
  put_at cells from to = put_to (outs_at cells from) to

  abbrev pub arrived_at : List (CellValue D) → (to from : ℕ) → List Posted
  arrived_at cells to from = arrived_from (ins_at cells to) from

  abbrev pub met_at : List (CellValue D) → (from to : ℕ) → ℕ
  met_at cells from to = met_to (outs_at cells from) to

  -- between each two sites lies one lane, which has both its ends there
  pub record HaveLanes (cells : List (CellValue D)) : Type 0 where
    pub outs : (from to : ℕ) → from < length cells → to < length cells → to < length (outs_at cells from)
    pub ins : (to from : ℕ) → to < length cells → from < length cells → from < length (ins_at cells to)
    pub rings : (to from : ℕ) → to < length cells → from < length cells
        → ring_to (outs_at cells from) to ≡ ring_from (ins_at cells to) from
    pub among : (i : ℕ) (c : CellValue D) → slice_get cells i ≡ Some c → c.node.catalog.sites ≡ length cells

  -- what has arrived anywhere is what had been put when the ends of the lane last met
  abbrev pub HaveAllMet : List (CellValue D) → Type 0
  HaveAllMet cells = (to from : ℕ) → met_at cells from to ≡ length (arrived_at cells to from)

  -- a cell is as before, but for what has arrived there and what it knows to have arrived elsewhere
  pub record HasStayed (old new : CellValue D) : Type 0 where
    pub node : IsSameButLanes old.node new.node
    pub lines : new.lines ≡ old.lines
    pub outs : out_rings new.node.outs ≡ out_rings old.node.outs
    pub ins : in_rings new.ins ≡ in_rings old.ins
    pub more : (from : ℕ) → length (arrived_from old.ins from) ≤ length (arrived_from new.ins from)
    pub sends : (to : ℕ) → put_to new.node.outs to ≡ put_to old.node.outs to

  -- so it is with each cell
  abbrev pub HaveStayed : (old new : List (CellValue D)) → Type 0
  HaveStayed old new = EachBecomes HasStayed old new

  -- what has arrived at a site from another is as before
  abbrev pub IsAsBefore : (old new : List (CellValue D)) → (to from : ℕ) → Type 0
  IsAsBefore old new to from = arrived_at new to from ≡ arrived_at old to from

  -- But for what arrives at one site, and what is known of that elsewhere, all is as before. Where the ends of lanes had met
  -- they have met again.
  pub record HasGathered (to : ℕ) (old new : BenchValue D) : Type 0 where
    pub stays : HaveStayed old.cells new.cells
    pub homes : new.homes ≡ old.homes
    pub elsewhere : (i j : ℕ) → (i ≢ to) ⊎ (j ≡ to) → IsAsBefore old.cells new.cells i j
    pub met : HaveAllMet old.cells → HaveAllMet new.cells

  -- what a site's trail puts out to another, as it lies on the lane
  abbrev pub put_by : List (CellValue D) → (from to : ℕ) → List Posted
  put_by cells from to = map (posted (length cells)) (put_out_to (site_at to) (trail_at cells (site_at from)))

  -- all of it has arrived there, and can be spelled
  pub record HasArrived (old new : List (CellValue D)) (to from : ℕ) : Type 0 where
    pub all : arrived_at new to from ≡ put_by old from to
    pub sized : All (λ (e : Entry). IsSized (length old) e.came) (trail_at old (site_at from))

  -- what has arrived at a site from another is a beginning of what that one's trail puts out to it
  abbrev pub Begins : List (CellValue D) → (to from : ℕ) → Type 0
  Begins cells to from = IsPrefix (arrived_at cells to from) (put_by cells from to)
