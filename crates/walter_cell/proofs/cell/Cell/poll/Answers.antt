use Rattle.std.proofs.Common.{List, refl, subst, arith}
use Rattle.walter_lane.specs.Lanes.{Receiving}
use Rattle.walter_outbox.specs.Lanes.{arrived_from}
use Rattle.walter_cell.specs.Cells.{CellValue, Keeps}
use Rattle.walter_cell.proofs.Meeting.{cell_polled, prefix_long}
use Rattle.walter_cell.proofs.Taken.{keeps_trail}
use Rattle.walter_cell.proofs.cell.Cell.poll.Goals as goal

pub invariant_of-self : goal.invariant_of-self
invariant_of-self g c = cell_polled _ c.poll_all.new.ins.items c.poll_all.ensures.long c.poll_all.ensures.more c.self.invariant

pub returns-clause-keeps : goal.returns-clause-keeps
returns-clause-keeps g c =
    let ins = c.self.inside.ins.items in
    let now : List Receiving = c.poll_all.new.ins.items in
    let old : CellValue g.row.D.Denot = record { node = c.self.inside.node; ins = ins; lines = c.self.inside.lines.items } in
    subst (λ (v : CellValue g.row.D.Denot). Keeps g.D.Disk v (record old { ins = now })) c.self.view_is
    (keeps_trail g.D.Disk old (record old { ins = now })
    (record { catalog = refl; site = refl; layout = refl; told = refl; rings = refl; places = omega arith }) c.poll_all.ensures.rings
    (λ j. prefix_long (arrived_from ins j) (arrived_from now j) (c.poll_all.ensures.more j)) refl refl)
