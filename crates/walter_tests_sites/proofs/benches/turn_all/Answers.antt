use Rattle.std.proofs.Common.{length, ap, ◌∙◌}
use Rattle.walter_tests_sites.proofs.benches.turn_all.Goals as goal

pub loop-number-preserved : goal.loop-number-preserved
loop-number-preserved c = ap length c.turn.ensures.keeps.homes ∙ c.loop-number.invariant
