use Rattle.walter_psi.proofs.CheckerLists.{before_start_more}
use Rattle.walter_psi.proofs.checker.logs.steps_before_start.Goals as goal

pub loop-place-preserved : goal.loop-place-preserved
loop-place-preserved c =
    before_start_more c.args.x c.args.steps.now c.loop-place.place c.index-steps-place.result c.loop-place-test.true c.index-steps-place.is
    (λ starts. let found = c.if-is_start_of.ensures.1 starts in cc) c.loop-place.invariant
