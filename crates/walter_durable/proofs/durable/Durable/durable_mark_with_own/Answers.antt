use Rattle.std.proofs.Common.{◌∙◌, max, ap}
use Rattle.walter_durable.specs.Marks.{HoldingsWithRoom, with_own}
use Rattle.walter_durable.proofs.Held.{greatest}
use Rattle.walter_durable.proofs.durable.Durable.durable_mark_with_own.Goals as goal

pub returns-clause-mark : goal.returns-clause-mark
returns-clause-mark c =
    let counted = c.counted_with_own.result in
    let H = c.args.self.now.holdings in
    let is = c.counted_with_own.ensures in (
      counted,
      greatest (with_own c.args.preferred.now H) counted is,
      c.max.ensures ∙ ap (λ (v : HoldingsWithRoom). max v.holdings.durable_floor counted) c.self.view_is,
    )
