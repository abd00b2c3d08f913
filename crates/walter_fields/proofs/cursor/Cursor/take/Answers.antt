use Rattle.walter_fields.proofs.Readings.{number_in_front}
use Rattle.walter_fields.proofs.cursor.Cursor.take.Goals as goal

pub returns-clause-number : goal.returns-clause-number
returns-clause-number c = rw (← c.self.view_is) (number_in_front c.args.count c.self.inside.end c.self.inside.left.now c.in-Some.front.now c.in-Some.rest.now c.self.invariant.1 c.in-Some.ensures.cases)
