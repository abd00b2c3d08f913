use Rattle.std.proofs.Common.{subst}
use Rattle.walter_audit.specs.Journals.{journals_of}
use Rattle.walter_audit.specs.Orders.{IsOrder}
use Rattle.walter_audit.specs.Walks.{IsLeft, NoneIsLeft}
use Rattle.walter_audit.proofs.Queued.{of_some, of_none}
use Rattle.walter_audit.proofs.Waiting.{whole_order, found_first, found_none}
use Rattle.walter_audit.proofs.circling.find_circle.Goals as goal

pub returns-in_default-clause-none : goal.returns-in_default-clause-none
returns-in_default-clause-none c =
    whole_order c.args.catalog.now (journals_of c.args.journals.now) c.requires.numbered c.args.queues.now c.requires.queues
    c.args.walk.now.order.items c.args.walk.now.cursors.items c.requires.walked
    (subst (λ cursors. NoneIsLeft c.args.queues.now cursors) c.deref.ensures.value
    (of_none c.in_ok-n.field-0 c.in_default.not-Some c.in_ok-n.ensures.none))

left_of : (c : goal.Joined-item) → IsLeft c.args.queues.now c.args.walk.now.cursors.items c.in-Some.n c.in-Some.item
left_of c = subst (λ cursors. IsLeft c.args.queues.now cursors c.in-Some.n c.in-Some.item) c.deref.ensures.value
    (of_some (λ (x, y). IsLeft c.args.queues.now c.deref.result.now x y) c.in_ok-n.field-0 (c.in-Some.n, c.in-Some.item)
    c.in-Some.is c.in_ok-n.ensures.some)

pub returns-clause-first : goal.returns-clause-first
returns-clause-first c =
    found_first c.args.catalog.now (journals_of c.args.journals.now) c.requires.numbered c.args.queues.now c.requires.queues
    c.args.walk.now.order.items c.args.walk.now.cursors.items c.requires.walked c.in-Some.n c.in-Some.item (left_of c)
    c.awaited.result c.awaited.ensures.some

pub returns-clause-none : goal.returns-clause-none
returns-clause-none c =
    found_none c.args.catalog.now (journals_of c.args.journals.now) c.requires.numbered c.args.queues.now c.requires.queues
    c.args.walk.now.order.items c.args.walk.now.cursors.items c.requires.walked c.in-Some.n c.in-Some.item (left_of c)
    (IsOrder c.args.catalog.now (journals_of c.args.journals.now) c.args.walk.now.order.items) c.requires.made
    c.awaited.result c.awaited.ensures.none
