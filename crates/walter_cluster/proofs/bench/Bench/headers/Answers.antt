use Rattle.std.proofs.Common.{◌≡◌, length, subst, sym}
use Rattle.std.specs.Prelude.{All}
use Rattle.walter_cell.specs.Cells.{CellValue}
use Rattle.walter_cluster.proofs.Closings.{all_each}
use Rattle.walter_cluster.proofs.bench.Bench.headers.Goals as goal

pub headers_of-requires : goal.headers_of-requires
headers_of-requires g c =
    let inside = c.self.inside.cells.items in
    subst (λ cells. All (λ (x : CellValue g.row.D.Denot). x.node.catalog.sites ≡ length cells) cells) (sym c.deref.ensures.value)
    (all_each (λ (x : CellValue g.row.D.Denot). x.node.catalog.sites ≡ length inside) inside
    (λ i x at. (c.self.invariant.0.cells i x at).sites_are))
