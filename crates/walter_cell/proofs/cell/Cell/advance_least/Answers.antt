use Rattle.std.proofs.Common.{refl}
use Rattle.walter_cell.specs.Pumps.{advances}
use Rattle.walter_cell.proofs.cell.Cell.advance_least.Goals as goal

pub returns-in_ok-advance-in-Some-clause-works : goal.returns-in_ok-advance-in-Some-clause-works
returns-in_ok-advance-in-Some-clause-works g c =
    advances c.in-Some.from c.in_ok-advance-in-Some.field-0 c.requires.none (rw c.in-Some.is at c.least_enabled.ensures)
    c.in_ok-advance-in-Some.ensures.acts refl c.pumped.ensures
