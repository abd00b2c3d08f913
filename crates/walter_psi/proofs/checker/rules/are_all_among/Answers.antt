use Rattle.std.proofs.Common.{refl}
use Rattle.std.specs.Prelude.{Contains}
use Rattle.std.proofs.lemmas.List.Elements.{All-more}
use Rattle.walter_psi.proofs.CheckerLists.{all_whole}
use Rattle.walter_psi.proofs.checker.rules.are_all_among.Goals as goal

pub loop-x-preserved : goal.loop-x-preserved
loop-x-preserved c = All-more (Contains c.args.others.now) c.args.transactions.now c.loop-x.x-index (record { site = record { 0 = 0 }; epoch = 0; number = 0 }) c.loop-x-test.true c.loop-x.invariant (c.if-not-is_among.ensures.0 refl)

pub returns : goal.returns
returns c = (λ _. all_whole (Contains c.args.others.now) c.args.transactions.now c.loop-x.x-index c.loop-x-test.false c.loop-x.invariant, λ _. refl)
