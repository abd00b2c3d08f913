use Rattle.std.proofs.Common.{◌≡◌, ◌<◌, length, arith, ap, sym, subst, ◌∙◌}
use Rattle.std.specs.Prelude.{is_some}
use Rattle.std.proofs.lemmas.Bool.{ltb-true}
use Rattle.walter_cell.specs.Cells.{CellValue}
use Rattle.walter_link.specs.Pumps.{PumpValue}
use Rattle.walter_cluster.specs.Shared.{IsHeld}
use Rattle.walter_cluster.proofs.Sharing.{held_more}
use Rattle.walter_cluster.proofs.shared.unlock_next.Goals as goal

pub returns-in-Some-clause-held : goal.returns-in-Some-clause-held
returns-in-Some-clause-held g c =
    let n = length g.N.Name.origins in
    let there : g.row.I < n = ltb-true g.row.I n (sym c.requires.there ∙ ap is_some c.in-Some.is) in
    let cells = c.args.cells.now.items in
    let pumps = c.args.pumps.now.items in
    let long : length cells ≡ g.row.I = omega (arith, there, c.requires.cells, c.args.cells.now.ok.0) in
    let as_long : length pumps ≡ g.row.I = omega (arith, there, c.requires.pumps, c.args.pumps.now.ok.0) in
    let held = c.into_inner.result in
    let parts = c.into_parts-cell in
    held_more g.D.Disk g.N.Name.origins g.row.I cells pumps _ _ parts.result.0 parts.result.1 long as_long
    c.push_reserved.ensures.items c.push_reserved-in-Some.ensures.items c.requires.held
    (subst (λ (x : CellValue g.row.D.Denot). IsHeld g.D.Disk g.N.Name.origins g.row.I (record { cell = x; pump = parts.result.1 })) (sym parts.ensures.cell)
    (subst (λ (q : PumpValue). IsHeld g.D.Disk g.N.Name.origins g.row.I (record { cell = held.cell; pump = q })) (sym parts.ensures.pump) parts.ensures.held))
