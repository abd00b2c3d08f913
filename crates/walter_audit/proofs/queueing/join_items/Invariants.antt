use Rattle.std.proofs.Common.{◌≡◌}
use Rattle.walter_audit.specs.Queues.{joined}
use Rattle.walter_audit.proofs.queueing.join_items.Given as goal

-- the items behind the fronts so far
abbrev pub invariant-loop-place : goal.invariant-loop-place
invariant-loop-place l = l.all.items ≡ joined l.starts l.records l.place
