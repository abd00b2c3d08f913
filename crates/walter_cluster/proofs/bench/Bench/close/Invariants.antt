use Rattle.std.proofs.Common.{◌≡◌, map, Some, vec_capacity}
use Rattle.std.specs.Prelude.{All}
use Rattle.walter_cell.specs.Cells.{CellValue, IsCell}
use Rattle.walter_cell.specs.Nodes.{IsSound}
use Rattle.walter_cluster.specs.Benches.{trails_of, disks_of}
use Rattle.walter_cluster.proofs.bench.Bench.close.Given as goal

abbrev pub invariant-loop-cell : goal.invariant-loop-cell
invariant-loop-cell g l = record {
  trails : l.closed.trails.items ≡ trails_of l.yielded;
  disks : map (λ d. Some d) l.closed.disks.items ≡ disks_of l.yielded;
  lines : l.closed.remains.items ≡ map (λ (c : CellValue g.row.D.Denot). c.lines) l.yielded;
  sound : All (λ (c : CellValue g.row.D.Denot). IsSound g.D.Disk c.node × IsCell c) l.yielded;
  for_trails : vec_capacity l.closed.trails ≡ vec_capacity l.initial.closed.trails;
  for_disks : vec_capacity l.closed.disks ≡ vec_capacity l.initial.closed.disks;
  for_remains : vec_capacity l.closed.remains ≡ vec_capacity l.initial.closed.remains;
}
