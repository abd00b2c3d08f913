use Rattle.std.proofs.Common.{◌≡◌, ◌≤◌, length, map, take}
use Rattle.std.specs.Prelude.{All}
use Rattle.walter_base.specs.declared.format.Format.{Format as Header}
use Rattle.walter_base.specs.Sizes.{most_in}
use Rattle.walter_cell.specs.Cells.{CellValue}
use Rattle.walter_rules.specs.Layouts.{header_of}
use Rattle.walter_cluster.proofs.bench.headers_of.Given as goal

abbrev pub invariant-loop-cell : goal.invariant-loop-cell
invariant-loop-cell g l = record {
  named : l.headers.items ≡ map (λ (c : CellValue g.row.D.Denot). header_of c.node.layout) (take l.cell-index l.cells);
  places : All (λ (header : Header). length l.cells ≤ most_in header) l.headers.items;
}
