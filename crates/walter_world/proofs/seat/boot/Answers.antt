use Rattle.walter_world.proofs.seat.boot.Goals as goal

pub returns-in-Ok-clause-ready : goal.returns-in-Ok-clause-ready
returns-in-Ok-clause-ready c format S down stands = c.in-Ok.ensures.ready format S down stands
