use Rattle.std.proofs.Common.{◌+◌, sym, subst}
use Rattle.walter_audit.proofs.Asked.{got_at}
use Rattle.walter_audit.proofs.Standing.{AreFrontsTo, fronts_more}
use Rattle.walter_audit.proofs.starting.fronts_of.Goals as goal

pub loop-journaled-preserved : goal.loop-journaled-preserved
loop-journaled-preserved c =
    let upto = c.loop-journaled.journaled-index in
    let at = got_at c.args.records.now upto c.journaled-item.result c.loop-journaled-test.true c.journaled-item.is in
    subst (λ fronts. AreFrontsTo c.args.sites c.args.site c.args.records.now (upto + 1) c.counts_behind-counts.result fronts)
    (sym c.in_ok-push-2.ensures.items)
    (fronts_more c.args.sites c.args.site c.args.records.now upto c.loop-journaled.counts c.loop-journaled.fronts.items
    c.journaled-item.result c.counts_behind-counts.result at c.counts_behind-counts.ensures.size
    c.counts_behind-counts.ensures.each c.loop-journaled.invariant)
