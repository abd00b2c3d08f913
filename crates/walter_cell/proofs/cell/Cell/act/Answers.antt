use Rattle.std.proofs.Common.{◌≡◌, ◌+◌, refl, subst, arith}
use Rattle.walter_cell.specs.Cells.{CellValue, Proceeds}
use Rattle.walter_cell.specs.Entries.{IsSpent, Grows, HasPlace}
use Rattle.walter_cell.specs.Nodes.{Takes, clock_in}
use Rattle.walter_cell.proofs.Taken.{plain_next, ready_takes, grows_taken, cell_room, proceeds_room, cell_alone, proceeds_alone, spent_next}
use Rattle.walter_cell.proofs.Turns.{place_found}
use Rattle.walter_cell.proofs.cell.Cell.act.Goals as goal

pub returns-in_default-clause-acts : goal.returns-in_default-clause-acts
returns-in_default-clause-acts g c = (
  subst (λ (v : CellValue g.row.D.Denot). IsSpent (clock_in v.node + 1) v.node.trail) c.self.view_is
      (spent_next _ _ c.in_default.ensures.none),
  refl,
)

pub invariant_of-self : goal.invariant_of-self
invariant_of-self g c = cell_room g.D.Disk _ c.make_ready.new.self c.in_err-make_ready.ensures.same c.self.invariant

pub returns-in_err-make_ready-clause-proceeds : goal.returns-in_err-make_ready-clause-proceeds
returns-in_err-make_ready-clause-proceeds g c =
    let old : CellValue g.row.D.Denot = record { node = c.self.inside.node; ins = c.self.inside.ins.items; lines = c.self.inside.lines.items } in
    subst (λ (v : CellValue g.row.D.Denot). Proceeds g.D.Disk v (record { node = c.make_ready.new.self; ins = old.ins; lines = old.lines })) c.self.view_is
    (proceeds_room g.D.Disk old c.make_ready.new.self c.in_err-make_ready.ensures.same)

pub invariant_of-self-2 : goal.invariant_of-self-2
invariant_of-self-2 g c =
    let old : CellValue g.row.D.Denot = record { node = c.self.inside.node; ins = c.self.inside.ins.items; lines = c.self.inside.lines.items } in
    let is : c.in-Some.stamp ≡ clock_in old.node + 1 = (let s = c.in-Some.ensures.some.0 in omega (arith, s)) in
    cell_alone g.D.Disk old c.take.new.self c.in-Some.stamp c.args.event
    (ready_takes g.D.Disk c.in-Some.stamp c.args.event old.node c.make_ready.new.self c.take.new.self c.in_ok-make_ready.ensures.same c.take.ensures)
    c.requires.0
    (plain_next old.node.site old.ins c.args.event (clock_in old.node) c.in-Some.stamp c.requires is) c.self.invariant

pub returns-clause-proceeds : goal.returns-clause-proceeds
returns-clause-proceeds g c =
    let old : CellValue g.row.D.Denot = record { node = c.self.inside.node; ins = c.self.inside.ins.items; lines = c.self.inside.lines.items } in
    subst (λ (v : CellValue g.row.D.Denot). Proceeds g.D.Disk v (record { node = c.take.new.self; ins = old.ins; lines = old.lines })) c.self.view_is
    (proceeds_alone g.D.Disk old c.take.new.self c.in-Some.stamp c.args.event
    (ready_takes g.D.Disk c.in-Some.stamp c.args.event old.node c.make_ready.new.self c.take.new.self c.in_ok-make_ready.ensures.same c.take.ensures)
    c.requires.0)

pub returns-clause-acts : goal.returns-clause-acts
returns-clause-acts g c =
    let old : CellValue g.row.D.Denot = record { node = c.self.inside.node; ins = c.self.inside.ins.items; lines = c.self.inside.lines.items } in
    let takes : Takes g.D.Disk c.in-Some.stamp c.args.event old.node c.take.new.self =
    ready_takes g.D.Disk c.in-Some.stamp c.args.event old.node c.make_ready.new.self c.take.new.self c.in_ok-make_ready.ensures.same c.take.ensures in
    subst (λ (v : CellValue g.row.D.Denot). HasPlace (clock_in v.node + 1) v.node.trail × Grows c.args.event v.node.trail c.take.new.self.trail) c.self.view_is (
      place_found (clock_in old.node) c.in-Some.stamp old.node.trail c.in-Some.ensures.some,
      grows_taken old c.take.new.self old.lines g.D.Disk c.in-Some.stamp c.args.event takes,
    )
