use Rattle.std.proofs.Common.{rules, ◌<◌, refl}
use Rattle.walter_cell.specs.declared.answers.Acted.TheVariants as acted
use Rattle.walter_cell.specs.Pumps.{ticks}
use Rattle.walter_cell.proofs.cell.Cell.tick_left.Goals as goal

pub returns-in-Did-clause-works : goal.returns-in-Did-clause-works
returns-in-Did-clause-works g c =
    let some : 0 < c.args.pump.now.ticks = search rules in
    ticks acted.Did c.requires.none c.requires.least some (rw c.in-Did.is at c.in_ok-tick.ensures.acts) c.tick-in-Did.ensures refl

pub returns-in-Spent-clause-works : goal.returns-in-Spent-clause-works
returns-in-Spent-clause-works g c =
    let some : 0 < c.args.pump.now.ticks = search rules in
    ticks acted.Spent c.requires.none c.requires.least some (rw c.in-Spent.is at c.in_ok-tick.ensures.acts) refl refl
