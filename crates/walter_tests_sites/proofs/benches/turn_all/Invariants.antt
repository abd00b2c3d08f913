use Rattle.std.proofs.Common.{◌≡◌, length}
use Rattle.walter_tests_sites.proofs.benches.turn_all.Given as goal

abbrev pub invariant-loop-number : goal.invariant-loop-number
invariant-loop-number l = length l.bench.homes ≡ l.clients
