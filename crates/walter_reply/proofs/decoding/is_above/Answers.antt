use Rattle.walter_reply.proofs.SetStops.{last_tells}
use Rattle.walter_reply.proofs.decoding.is_above.Goals as goal

pub returns-in-Some : goal.returns-in-Some
returns-in-Some c = last_tells c.args.entries.now c.in-Some.last.now c.args.id c.requires c.in-Some.ensures.value
