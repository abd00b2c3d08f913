use Rattle.std.proofs.Common.{◌∙◌, subst, refl, List, ℕ}
use Rattle.std.specs.Prelude.{All}
use Rattle.walter_base.specs.Counting.{IsListed}
use Rattle.walter_base.proofs.SetCounts.{counts_are, counts_true, counts_listed}
use Rattle.walter_psi.proofs.checker.answers.are_counts.Goals as goal

pub returns-then-not-are_rising : goal.returns-then-not-are_rising
returns-then-not-are_rising c = (λ no. absurd cc, λ are. c.if-not-are_rising.ensures.1 are.rising)

pub returns-then-not-are_true : goal.returns-then-not-are_true
returns-then-not-are_true c = (λ no. absurd cc, λ are. c.if-not-are_true.ensures.1 (counts_true _ _ _ are))

pub returns : goal.returns
returns c =
    let named = c.deref.ensures.value ∙ c.in_ok-ids.ensures in
    let P = λ (ids : List ℕ). All (IsListed c.args.oid c.args.updates.now c.args.counts.now) ids in (
      λ is. counts_are _ _ _ (c.if-not-are_rising.ensures.0 refl) (c.if-not-are_true.ensures.0 refl) (subst P named (c.are_listed-listed.ensures.0 is)),
      λ are. c.are_listed-listed.ensures.1 (counts_listed _ _ _ _ are),
    )
