use Rattle.std.proofs.Common.{◌≡◌}
use Rattle.walter_tests_tables.proofs.marks.mark.Given as goal

abbrev pub invariant-loop-peer : goal.invariant-loop-peer
invariant-loop-peer l = l.table.holdings.sites ≡ l.sites
