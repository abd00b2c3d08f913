use Rattle.std.proofs.Common.{◌<◌, sym, subst}
use Rattle.walter_durable.specs.Marks.{Holdings, HoldingsWithRoom, IsPossible, AreVisible, IsGreatest}
use Rattle.walter_durable.specs.Counted.{kept_in}
use Rattle.walter_durable.proofs.Heard.{possible_visible}
use Rattle.walter_durable.proofs.Held.{counted_beside}
use Rattle.walter_durable.proofs.Kept.{told_visible}
use Rattle.walter_durable.proofs.durable.Durable.hear_visible.Goals as goal

pub invariant_of-self : goal.invariant_of-self
invariant_of-self c =
    let d = c.self.inside in
    let said = c.after_hearing-visible.result in
    let inside = subst (λ (v : HoldingsWithRoom). c.args.peer.0 < v.holdings.sites) (sym c.self.view_is) c.requires in
    let told = told_visible d c.own.result c.own.ensures said c.args.peer c.args.committed
    c.after_hearing-visible.ensures in (
      subst (λ (H : Holdings). IsPossible H) (sym told)
          (possible_visible (kept_in d) c.self.invariant.0 c.args.peer c.args.committed inside),
      counted_beside (kept_in d) said d.durable_floor d.visible_floor d.counted c.self.invariant.1,
      subst (λ (v : HoldingsWithRoom). IsGreatest (AreVisible (record v.holdings { visible = said })) c.seen-self-inside.result)
          (sym c.self.view_is) c.seen-self-inside.ensures.greatest,
    )
