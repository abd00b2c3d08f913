use Rattle.std.proofs.Common.{◌≡◌, ◌∙◌, sym, subst, refl, List}
use Rattle.std.proofs.lemmas.List.{take_all}
use Rattle.walter_base.specs.declared.names.Tid.{Tid}
use Rattle.walter_psi.specs.Histories.{IsCommitted, snapshot}
use Rattle.walter_psi.specs.Checking.{Blocks}
use Rattle.walter_psi.specs.declared.step.Step.{Step}
use Rattle.walter_psi.proofs.CheckerLists.{read_stands, committed_more}
use Rattle.std.specs.Prelude.{Contains}
use Rattle.walter_psi.proofs.checker.rules.is_blocked.Goals as goal
use Rattle.walter_psi.proofs.checker.rules.is_blocked.Goals.{in-Commit+in_ok-blocks+else-branch, in_default}

pub returns-then-branch : goal.returns-then-branch
returns-then-branch c =
    let steps = c.args.steps.now in
    let seen = c.deref.ensures.value ∙ c.in_ok-snapshot.ensures in
    let blocks = subst (λ (all : List Tid). Blocks steps all c.args.x c.args.updates.now c.in-Commit.y) seen (c.in_ok-blocks.ensures.0 c.if-branch.true) in
    let stands = subst (λ (step : Step). Contains steps step) c.in-Commit.is (read_stands steps c.loop-step.step-index c.step-item.result c.loop-step-test.true c.step-item.is) in (
      λ _. (c.in-Commit.y, (c.in-Commit.field-1, stands), blocks.other, blocks.conflict, blocks.outside),
      λ _. refl,
    )

pub loop-step-preserved : goal.loop-step-preserved
loop-step-preserved c =
    let steps = c.args.steps.now in
    committed_more (λ y. Blocks steps (snapshot c.args.x steps) c.args.x c.args.updates.now y) steps c.loop-step.step-index c.step-item.result
    c.loop-step-test.true c.step-item.is c.loop-step.invariant
    (λ y updates is blocks. elim c.match-step.branch [
      | in-Commit+in_ok-blocks+else-branch w ↦
          let seen = w.deref.ensures.value ∙ c.in_ok-snapshot.ensures in
          let other = w.in-Commit.is in
          let same : y ≡ w.in-Commit.y = cc in
          let here = subst (λ (z : Tid). Blocks steps (snapshot c.args.x steps) c.args.x c.args.updates.now z) same blocks in
          let found = w.in_ok-blocks.ensures.1 (subst (λ (all : List Tid). Blocks steps all c.args.x c.args.updates.now w.in-Commit.y) (sym seen) here) in
          let not = w.if-branch.false in
          cc
      | in_default w ↦ w.in_default.not-Commit y updates is
    ])

pub returns : goal.returns
returns c = (
  λ no. absurd cc,
  λ blocked. absurd (c.loop-step.invariant blocked.0 (subst (λ front. IsCommitted blocked.0 front) (sym (take_all _ _ c.loop-step-test.false)) blocked.1) (record { other = blocked.2; outside = blocked.4; conflict = blocked.3 })),
)
