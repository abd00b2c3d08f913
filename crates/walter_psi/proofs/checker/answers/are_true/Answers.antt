use Rattle.std.proofs.Common.{refl}
use Rattle.std.specs.Prelude.{pos}
use Rattle.walter_base.specs.Counting.{IsCountOf}
use Rattle.std.proofs.lemmas.List.Elements.{All-more}
use Rattle.walter_psi.proofs.CheckerLists.{all_whole}
use Rattle.walter_psi.proofs.checker.answers.are_true.Goals as goal

pub loop-count-preserved : goal.loop-count-preserved
loop-count-preserved c = All-more (IsCountOf c.args.oid c.args.updates.now) c.args.counts.now c.loop-count.count-index (0, pos 0) c.loop-count-test.true c.loop-count.invariant (c.if-not-is_count.ensures.0 refl)

pub returns : goal.returns
returns c = (λ _. all_whole (IsCountOf c.args.oid c.args.updates.now) c.args.counts.now c.loop-count.count-index c.loop-count-test.false c.loop-count.invariant, λ _. refl)
