use Rattle.std.proofs.Common.{◌≡◌, ap, subst, refl, Some}
use Rattle.std.proofs.lemmas.List.{take_all}
use Rattle.walter_psi.specs.Legal.{IsLegal}
use Rattle.walter_psi.specs.Checking.{IsFirstIllegal}
use Rattle.walter_psi.proofs.CheckerLists.{legal_more, read_at, first_once}
use Rattle.walter_psi.proofs.checker.first_illegal.Goals as goal

pub loop-place-preserved : goal.loop-place-preserved
loop-place-preserved c =
    legal_more c.args.steps.now c.loop-place.place c.index-steps-place.result c.loop-place-test.true c.index-steps-place.is c.loop-place.invariant
    (c.in_ok-may_follow.ensures.0 c.if-not-branch.false)

pub returns-then-not-branch-clause-none : goal.returns-then-not-branch-clause-none
returns-then-not-branch-clause-none c =
    let at = read_at c.args.steps.now c.loop-place.place c.index-steps-place.result c.loop-place-test.true c.index-steps-place.is in (
      λ no. absurd cc,
      λ legal. let true_too = c.in_ok-may_follow.ensures.1 (legal c.loop-place.place c.index-steps-place.result at) in let not = c.if-not-branch.true in absurd cc,
    )

pub returns-then-not-branch-clause-first : goal.returns-then-not-branch-clause-first
returns-then-not-branch-clause-first c place =
    let at = read_at c.args.steps.now c.loop-place.place c.index-steps-place.result c.loop-place-test.true c.index-steps-place.is in
    let here : IsFirstIllegal c.args.steps.now c.loop-place.place = record {
      legal = c.loop-place.invariant;
      step = c.index-steps-place.result;
      here = at;
      wrong = λ next. let true_too = c.in_ok-may_follow.ensures.1 next in let not = c.if-not-branch.true in cc;
    } in (
      λ same. let places : c.loop-place.place ≡ place = cc in subst (λ p. IsFirstIllegal c.args.steps.now p) places here,
      λ first. ap (λ p. Some p) (first_once c.args.steps.now c.loop-place.place place here first),
    )

pub returns-clause-none : goal.returns-clause-none
returns-clause-none c = (
  λ _. subst (λ front. IsLegal front) (take_all _ _ c.loop-place-test.false) c.loop-place.invariant,
  λ _. refl,
)

pub returns-clause-first : goal.returns-clause-first
returns-clause-first c place =
    let legal = subst (λ front. IsLegal front) (take_all _ _ c.loop-place-test.false) c.loop-place.invariant in (
      λ no. absurd cc,
      λ first. absurd (first.wrong (legal place first.step first.here)),
    )
