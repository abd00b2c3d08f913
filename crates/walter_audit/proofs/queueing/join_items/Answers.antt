use Rattle.std.proofs.Common.{◌++◌, length, ap, ◌∙◌, arith}
use Rattle.walter_audit.proofs.Asked.{got_at}
use Rattle.walter_audit.proofs.Queued.{joined_place, joined_last}
use Rattle.walter_audit.proofs.queueing.join_items.Goals as goal

pub loop-place-preserved : goal.loop-place-preserved
loop-place-preserved c =
    let p = c.loop-place.place in
    joined_place c.args.starts.now c.args.records.now p c.index-starts-place.result c.index-records-place.result
    (got_at c.args.starts.now p c.index-starts-place.result (omega arith) c.index-starts-place.is)
    (got_at c.args.records.now p c.index-records-place.result c.loop-place-test.true c.index-records-place.is)
    c.loop-place.all.items c.append_copies.new.all.items c.append_item.new.all.items c.loop-place.invariant
    (c.in_ok-append_copies.ensures ∙ ap (λ l. c.loop-place.all.items ++ l) c.deref.ensures.value) c.in_ok-append_item.ensures

pub returns : goal.returns
returns c =
    c.of.ensures ∙ joined_last c.args.starts.now c.args.records.now c.loop-place.place c.index-starts-records.result
    (omega arith)
    (got_at c.args.starts.now (length c.args.records.now) c.index-starts-records.result (omega arith) c.index-starts-records.is)
    c.loop-place.all.items c.append_copies-2.new.all.items c.loop-place.invariant
    (c.in_ok-append_copies-2.ensures ∙ ap (λ l. c.loop-place.all.items ++ l) c.deref-2.ensures.value)
