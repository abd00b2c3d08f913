use Rattle.std.proofs.Common.{◌≢◌, ℕ, subst}
use Rattle.walter_durable.specs.Marks.{HoldingsWithRoom, AreVisible, IsGreatest, with_own}
use Rattle.walter_durable.specs.Counted.{kept_in}
use Rattle.walter_durable.proofs.Seen.{greatest_among}
use Rattle.walter_durable.proofs.durable.Durable.seen_with_own.Goals as goal

pub returns-else-self-eq1 : goal.returns-else-self-eq1
returns-else-self-eq1 c = λ preferred.
    let d = c.self.inside in
    let several : d.copies.sites ≢ 1 = c.if-self-eq1.false in
    subst (λ (v : HoldingsWithRoom). IsGreatest (AreVisible (with_own preferred v.holdings)) d.seen_by_all) c.self.view_is
    (greatest_among (kept_in d) preferred d.seen_by_all c.self.invariant.0 several c.self.invariant.2)
