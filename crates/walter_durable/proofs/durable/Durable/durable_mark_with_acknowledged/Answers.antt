use Rattle.std.proofs.Common.{◌<◌, sym, subst}
use Rattle.walter_durable.specs.Marks.{HoldingsWithRoom, IsDurableMark, with_acknowledged}
use Rattle.walter_durable.specs.Counted.{kept_in}
use Rattle.walter_durable.proofs.Held.{greatest}
use Rattle.walter_durable.proofs.Kept.{here_few, held_heard, heard_few, counted_heard}
use Rattle.walter_durable.proofs.durable.Durable.durable_mark_with_acknowledged.Goals as goal

pub count_on-counted-requires-clause-held : goal.count_on-counted-requires-clause-held
count_on-counted-requires-clause-held c =
    let d = c.self.inside in
    let inside = subst (λ (v : HoldingsWithRoom). c.args.peer.0 < v.holdings.sites) (sym c.self.view_is) c.requires in
    held_heard d c.own.result c.own.ensures c.after_hearing-acknowledged.result c.args.peer c.args.got
    c.after_hearing-acknowledged.ensures c.self.invariant.0 c.self.invariant.1.held inside

pub count_on-counted-requires-clause-here : goal.count_on-counted-requires-clause-here
count_on-counted-requires-clause-here c = here_few c.self.inside c.self.invariant.0

pub count_on-counted-requires-clause-few : goal.count_on-counted-requires-clause-few
count_on-counted-requires-clause-few c =
    heard_few c.self.inside c.own.result c.own.ensures c.after_hearing-acknowledged.result c.args.peer c.args.got
    c.after_hearing-acknowledged.ensures c.self.invariant.0

pub returns-clause-mark : goal.returns-clause-mark
returns-clause-mark c =
    let d = c.self.inside in
    let H = with_acknowledged c.args.peer c.args.got (kept_in d) in
    let m = c.count_on-counted.result in
    let counted = counted_heard d c.own.result c.own.ensures c.after_hearing-acknowledged.result c.args.peer c.args.got
    c.after_hearing-acknowledged.ensures m c.count_on-counted.ensures in
    subst (λ (v : HoldingsWithRoom). IsDurableMark (with_acknowledged c.args.peer c.args.got v.holdings) c.max.result)
    c.self.view_is (m, greatest H m counted, c.max.ensures)
