use Rattle.std.proofs.Common.{◌-◌}
use Rattle.walter_workers.proofs.working.serve.Given as goal

abbrev pub invariant-loop-client : goal.invariant-loop-client
invariant-loop-client g l = Unit {0}

abbrev pub decreases-loop-client : goal.decreases-loop-client
decreases-loop-client g l = l.clients - l.client
