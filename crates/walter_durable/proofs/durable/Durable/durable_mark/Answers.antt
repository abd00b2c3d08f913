use Rattle.std.proofs.Common.{subst}
use Rattle.walter_durable.specs.Marks.{HoldingsWithRoom, IsDurableMark}
use Rattle.walter_durable.specs.Counted.{kept_in}
use Rattle.walter_durable.proofs.Held.{greatest}
use Rattle.walter_durable.proofs.durable.Durable.durable_mark.Goals as goal

pub returns-clause-mark : goal.returns-clause-mark
returns-clause-mark c =
    let d = c.self.inside in
    subst (λ (v : HoldingsWithRoom). IsDurableMark v.holdings c.max.result) c.self.view_is
    (d.counted, greatest (kept_in d) d.counted c.self.invariant.1, c.max.ensures)
