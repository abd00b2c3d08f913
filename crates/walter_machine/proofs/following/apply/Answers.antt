use Rattle.std.proofs.Common.{◌≡◌, ◌∙◌, Some, sym, ap}
use Rattle.walter_machine.proofs.Behind.{applied_knows, applied_of}
use Rattle.walter_rules.specs.declared.event.Event.TheVariants.{Given}
use Rattle.walter_rules.specs.declared.event.Input.TheVariants.{Tick}
use Rattle.walter_machine.proofs.following.apply.Goals as goal

pub returns-clause-knows : goal.returns-clause-knows
returns-clause-knows c = λ S is.
    let site = c.args.site.now in
    let event = c.args.event.now in
    applied_knows site event S c.args.plan.now c.in-Some.site _ c.in-Given.input c.in-Some.is c.in-Given.is c.apply.ensures.knows is

pub returns-clause-of : goal.returns-clause-of
returns-clause-of c = λ catalog i of.
    applied_of c.args.site.now c.in-Some.site _ catalog i c.in-Some.is c.apply.ensures.site c.apply.ensures.catalog of

pub returns-clause-tick : goal.returns-clause-tick
returns-clause-tick c = λ tick.
    let same : Given c.in-Given.input ≡ Given Tick = sym c.in-Given.is ∙ tick in
    ap (λ t. Some t) (c.apply.ensures.tick (let is = same in cc)) ∙ sym c.in-Some.is
