use Rattle.std.proofs.Common.{◌≤◌, sym, subst}
use Rattle.walter_durable.specs.Marks.{HoldingsWithRoom, own}
use Rattle.walter_durable.specs.Counted.{kept_in}
use Rattle.walter_durable.proofs.Held.{counted_beside}
use Rattle.walter_durable.proofs.Seen.{visible_beside}
use Rattle.walter_durable.proofs.durable.Durable.journal.Goals as goal

pub invariant_of-self : goal.invariant_of-self
invariant_of-self c =
    let d = c.self.inside in
    let p = c.self.invariant.0 in (
      record {
        here = p.here;
        few = p.few;
        tolerated = p.tolerated;
        acknowledged = p.acknowledged;
        visible = p.visible;
        held = p.held;
        seen = p.seen;
        durable_floor = subst (λ (v : HoldingsWithRoom). c.args.durable ≤ own v.holdings) (sym c.self.view_is)
            c.requires.durable_within;
        visible_floor = subst (λ (v : HoldingsWithRoom). c.args.visible ≤ own v.holdings) (sym c.self.view_is)
            c.requires.visible_within;
      },
      counted_beside (kept_in d) d.visible c.args.durable c.args.visible d.counted c.self.invariant.1,
      visible_beside (kept_in d) d.acknowledged c.args.durable c.args.visible d.seen_by_all c.self.invariant.2,
    )
