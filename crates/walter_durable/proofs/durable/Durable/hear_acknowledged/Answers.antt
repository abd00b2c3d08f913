use Rattle.std.proofs.Common.{◌<◌, sym, subst}
use Rattle.walter_durable.specs.Marks.{Holdings, HoldingsWithRoom, own, heard, IsPossible, AreVisible, IsGreatest}
use Rattle.walter_durable.specs.Counted.{kept_in, IsCounted}
use Rattle.walter_durable.proofs.Heard.{possible_acknowledged}
use Rattle.walter_durable.proofs.Kept.{told_acknowledged, here_few, held_heard, heard_few, counted_heard}
use Rattle.walter_durable.proofs.Seen.{visible_beside}
use Rattle.walter_durable.proofs.durable.Durable.hear_acknowledged.Goals as goal

pub count_on-self-inside-requires-clause-held : goal.count_on-self-inside-requires-clause-held
count_on-self-inside-requires-clause-held c =
    let d = c.self.inside in
    let inside = subst (λ (v : HoldingsWithRoom). c.args.peer.0 < v.holdings.sites) (sym c.self.view_is) c.requires in
    held_heard d c.own.result c.own.ensures c.after_hearing-self-inside.result c.args.peer c.args.got
    c.after_hearing-self-inside.ensures c.self.invariant.0 c.self.invariant.1.held inside

pub count_on-self-inside-requires-clause-here : goal.count_on-self-inside-requires-clause-here
count_on-self-inside-requires-clause-here c = here_few c.self.inside c.self.invariant.0

pub count_on-self-inside-requires-clause-few : goal.count_on-self-inside-requires-clause-few
count_on-self-inside-requires-clause-few c =
    heard_few c.self.inside c.own.result c.own.ensures c.after_hearing-self-inside.result c.args.peer c.args.got
    c.after_hearing-self-inside.ensures c.self.invariant.0

pub invariant_of-self : goal.invariant_of-self
invariant_of-self c =
    let d = c.self.inside in
    let said = c.after_hearing-self-inside.result in
    let m = c.count_on-self-inside.result in
    let inside = subst (λ (v : HoldingsWithRoom). c.args.peer.0 < v.holdings.sites) (sym c.self.view_is) c.requires in
    let told = told_acknowledged d c.own.result c.own.ensures said c.args.peer c.args.got
    c.after_hearing-self-inside.ensures in
    let counted = counted_heard d c.own.result c.own.ensures said c.args.peer c.args.got
    c.after_hearing-self-inside.ensures m c.count_on-self-inside.ensures in
    subst (λ (H : Holdings). IsPossible H × IsCounted H m × IsGreatest (AreVisible H) d.seen_by_all) (sym told) (
      possible_acknowledged (kept_in d) c.self.invariant.0 c.args.peer c.args.got inside,
      counted,
      visible_beside (kept_in d) (heard (own (kept_in d)) d.acknowledged c.args.peer c.args.got) d.durable_floor
          d.visible_floor d.seen_by_all c.self.invariant.2,
    )
