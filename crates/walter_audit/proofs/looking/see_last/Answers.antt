use Rattle.std.specs.HashMap.{get}
use Rattle.walter_base.specs.Names.{same_object}
use Rattle.walter_audit.proofs.Asked.{got_at}
use Rattle.walter_audit.proofs.Lasting.{see_more}
use Rattle.walter_audit.proofs.looking.see_last.Goals as goal

pub loop-taken-preserved : goal.loop-taken-preserved
loop-taken-preserved c =
    let at = got_at c.args.order.now c.loop-taken.taken-index c.taken-item.result c.loop-taken-test.true c.taken-item.is in
    see_more c.args.order.now c.loop-taken.taken-index c.taken-item.result (λ o. get same_object c.loop-taken.last o)
    (λ o. get same_object c.sees_those_before.new.last o) at
    (c.in_ok-sees_those_before.ensures.sees c.if-not-branch.false) (c.in_ok-sees_those_before.ensures.behind c.if-not-branch.false)
    c.loop-taken.invariant
