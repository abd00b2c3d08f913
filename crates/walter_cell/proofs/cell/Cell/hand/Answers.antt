use Rattle.std.proofs.Common.{drop, refl}
use Rattle.walter_cell.specs.declared.answers.Moved.TheVariants as moved
use Rattle.walter_cell.specs.Pumps.{hands}
use Rattle.walter_cell.proofs.Works.{first_front}
use Rattle.walter_cell.proofs.cell.Cell.hand.Goals as goal

pub returns-in-Did-clause-works : goal.returns-in-Did-clause-works
returns-in-Did-clause-works g c =
    let waiting = c.args.pump.now.waiting in
    hands c.args.first (drop 1 waiting) moved.Did (first_front waiting c.args.first c.requires.first) c.requires.taken
    (record { there = c.requires.there; moves = rw c.in-Did.is at c.in_ok-deliver.ensures.moves }) c.leave.ensures refl

pub returns-in-Nothing-clause-works : goal.returns-in-Nothing-clause-works
returns-in-Nothing-clause-works g c =
    let waiting = c.args.pump.now.waiting in
    hands c.args.first (drop 1 waiting) moved.Nothing (first_front waiting c.args.first c.requires.first) c.requires.taken
    (record { there = c.requires.there; moves = rw c.in-Nothing.is at c.in_ok-deliver.ensures.moves }) refl refl

pub returns-in-Spent-clause-works : goal.returns-in-Spent-clause-works
returns-in-Spent-clause-works g c =
    let waiting = c.args.pump.now.waiting in
    hands c.args.first (drop 1 waiting) moved.Spent (first_front waiting c.args.first c.requires.first) c.requires.taken
    (record { there = c.requires.there; moves = rw c.in-Spent.is at c.in_ok-deliver.ensures.moves }) refl refl
