use Rattle.std.proofs.Common.{◌≡◌, ◌+◌, length, ap, ◌∙◌}
use Rattle.walter_audit.specs.Orders.{items}
use Rattle.walter_audit.specs.Queues.{list_at, joined}
use Rattle.walter_audit.proofs.Queued.{joined_items, ok_by}
use Rattle.walter_audit.proofs.queueing.queue_of.Goals as goal

pub returns : goal.returns
returns c =
    let starts = c.deref-2.result.now in
    let records = c.args.records.now in
    ok_by (λ queue. queue ≡ joined starts records (length records + 1)) (λ queue. queue ≡ items c.args.catalog.now c.args.site records)
    (λ queue e. e ∙ joined_items c.args.catalog.now c.args.site records starts
    (λ p low. ap (λ l. list_at l p) c.deref-2.ensures.value ∙ c.in_ok-starts.ensures.each p low))
    c.join_items.result c.join_items.ensures
