use Rattle.std.proofs.Common.{refl}
use Rattle.walter_base.specs.Counting.{IsListed}
use Rattle.std.proofs.lemmas.List.Elements.{All-more}
use Rattle.walter_psi.proofs.CheckerLists.{all_whole}
use Rattle.walter_psi.proofs.checker.answers.are_listed.Goals as goal

pub returns-then-not-is_listed : goal.returns-then-not-is_listed
returns-then-not-is_listed c = (λ no. absurd cc, λ all. c.if-not-is_listed.ensures.1 (all c.loop-id.id-index 0 c.loop-id-test.true))

pub loop-id-preserved : goal.loop-id-preserved
loop-id-preserved c = All-more (IsListed c.args.oid c.args.updates.now c.args.counts.now) c.args.ids.now c.loop-id.id-index 0 c.loop-id-test.true c.loop-id.invariant (c.if-not-is_listed.ensures.0 refl)

pub returns : goal.returns
returns c = (λ _. all_whole (IsListed c.args.oid c.args.updates.now c.args.counts.now) c.args.ids.now c.loop-id.id-index c.loop-id-test.false c.loop-id.invariant, λ _. refl)
