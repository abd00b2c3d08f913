use Rattle.std.proofs.Common.{ap, sym, ◌∙◌}
use Rattle.walter_objects.proofs.Placed.{gathered, gathered-push, gathered_all}
use Rattle.walter_objects.proofs.objects.objects_of.Goals as goal

pub loop-update-init : goal.loop-update-init
loop-update-init c =
    ap (gathered c.args.updates.now) c.new-objects.ensures.items ∙ gathered_all c.args.updates.now

pub loop-update-preserved : goal.loop-update-preserved
loop-update-preserved c =
    let rest = c.loop-update.rest.now in
    let objects = c.loop-update.objects.items in
    ap (gathered c.in-Some.front.now) c.in_ok-put_written.ensures
    ∙ sym (gathered-push c.in-Some.front.now c.in-Some.update.now objects)
    ∙ ap (λ us. gathered us objects) (sym c.in-Some.ensures.cases.0)
    ∙ c.loop-update.invariant
