use Rattle.std.proofs.Common.{◌≡◌, None, replicate}
use Rattle.walter_cluster.proofs.seating.make_list.Given as goal

abbrev pub invariant-loop : goal.invariant-loop
invariant-loop g l = l.list.items ≡ replicate l.counter None
