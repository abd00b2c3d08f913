use Rattle.std.proofs.Common.{subst}
use Rattle.walter_durable.specs.Marks.{HoldingsWithRoom, IsVisibleMark}
use Rattle.walter_durable.proofs.durable.Durable.visible_mark.Goals as goal

pub returns-clause-mark : goal.returns-clause-mark
returns-clause-mark c =
    let d = c.self.inside in
    subst (λ (v : HoldingsWithRoom). IsVisibleMark v.holdings c.max.result) c.self.view_is
    (d.seen_by_all, c.self.invariant.2, c.max.ensures)
