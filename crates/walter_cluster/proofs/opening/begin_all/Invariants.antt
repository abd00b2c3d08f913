use Rattle.std.proofs.Common.{◌≡◌, drop, vec_capacity}
use Rattle.walter_cluster.specs.Lanes.{rows_in, columns_in}
use Rattle.walter_cluster.specs.Openings.{HaveBegun}
use Rattle.walter_cluster.specs.Seats.{lists_in}
use Rattle.walter_cluster.proofs.opening.begin_all.Given as goal

-- what isn't yet in cells, and the sites that have begun
abbrev pub invariant-loop-number : goal.invariant-loop-number
invariant-loop-number g l = record {
  disks : l.disks.items ≡ drop l.number l.fn.disks.items;
  rows : l.rows.items ≡ drop l.number l.fn.parts.rows.items;
  columns : l.columns.items ≡ drop l.number l.fn.parts.columns.items;
  lists : l.lists.items ≡ drop l.number l.fn.parts.lists.items;
  begun : HaveBegun g.D.Disk l.scenario l.fn.disks.items (rows_in l.fn.parts.rows.items) (columns_in l.fn.parts.columns.items) (lists_in l.fn.parts.lists.items) l.number l.cells.items;
  room : vec_capacity l.cells ≡ vec_capacity l.fn.parts.room.cells;
}
