use Rattle.std.proofs.Common.{◌+◌, ap, sym, ◌∙◌, subst, arith}
use Rattle.walter_audit.specs.Journals.{journals_of, AreAmong}
use Rattle.walter_audit.specs.Orders.{items}
use Rattle.walter_audit.proofs.Asked.{got_at, journal_at}
use Rattle.walter_audit.proofs.Queued.{AreQueuesTo, queue_more, queues_are}
use Rattle.walter_audit.proofs.auditing.queues_of.Goals as goal

pub queue_of-requires-clause-among : goal.queue_of-requires-clause-among
queue_of-requires-clause-among c =
    let n = c.loop-number.number in
    let at = got_at c.args.journals.now n c.index-journals-number.result c.loop-number-test.true c.index-journals-number.is in
    subst (λ rs. AreAmong c.args.catalog.now.sites rs)
    (journal_at c.args.journals.now n c.index-journals-number.result at ∙ sym c.records.ensures) (c.requires.among (record { 0 = n }))

pub loop-number-preserved : goal.loop-number-preserved
loop-number-preserved c =
    let n = c.loop-number.number in
    let at = got_at c.args.journals.now n c.index-journals-number.result c.loop-number-test.true c.index-journals-number.is in
    subst (λ queues. AreQueuesTo c.args.catalog.now (journals_of c.args.journals.now) (n + 1) queues) (sym c.in_ok-push.ensures.items)
    (queue_more c.args.catalog.now (journals_of c.args.journals.now) n c.loop-number.queues.items c.in_ok-queue_of.field-0
    (c.in_ok-queue_of.ensures ∙ ap (λ rs. items c.args.catalog.now (record { 0 = n }) rs)
    (c.records.ensures ∙ sym (journal_at c.args.journals.now n c.index-journals-number.result at)))
    c.loop-number.invariant)

pub returns-clause-each : goal.returns-clause-each
returns-clause-each c = queues_are c.args.catalog.now c.args.journals.now c.loop-number.number c.loop-number.queues.items
    (omega arith) c.loop-number.invariant
