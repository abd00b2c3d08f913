use Rattle.std.proofs.Common.{subst}
use Rattle.walter_cell.specs.Cells.{CellValue, Keeps}
use Rattle.walter_cell.proofs.Taken.{cell_disk, keeps_disk}
use Rattle.walter_cell.proofs.cell.Cell.arm.Goals as goal

pub invariant_of-self : goal.invariant_of-self
invariant_of-self g c = cell_disk _ c.arm.new.self c.arm.ensures.same c.self.invariant

pub returns-clause-keeps : goal.returns-clause-keeps
returns-clause-keeps g c =
    let old : CellValue g.row.D.Denot = record { node = c.self.inside.node; ins = c.self.inside.ins.items; lines = c.self.inside.lines.items } in
    subst (λ (v : CellValue g.row.D.Denot). Keeps g.D.Disk v (record { node = c.arm.new.self; ins = old.ins; lines = old.lines })) c.self.view_is
    (keeps_disk old c.arm.new.self g.D.Disk c.arm.ensures.same c.arm.ensures.told)
