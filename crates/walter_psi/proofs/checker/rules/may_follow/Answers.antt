use Rattle.std.proofs.Common.{sym, subst, ◌↔◌}
use Rattle.std.specs.Prelude.{IsTrue, IfOk}
use Rattle.walter_psi.specs.Legal.{IsLegalStep, IsLegalCommit}
use Rattle.walter_psi.proofs.checker.rules.may_follow.Goals as goal

pub returns-in-Op : goal.returns-in-Op
returns-in-Op c = subst (λ step. IsTrue c.is_running.result ↔ IsLegalStep c.args.steps.now step) (sym c.in-Op.is) c.is_running.ensures

pub returns-in-Read : goal.returns-in-Read
returns-in-Read c = subst (λ step. IfOk c.may_read.result (λ may. IsTrue may ↔ IsLegalStep c.args.steps.now step)) (sym c.in-Read.is) c.may_read.ensures

pub returns-in-Commit : goal.returns-in-Commit
returns-in-Commit c =
    subst (λ step. IfOk c.may_commit.result (λ may. IsTrue may ↔ IsLegalStep c.args.steps.now step)) (sym c.in-Commit.is)
    (subst (λ updates. IfOk c.may_commit.result (λ may. IsTrue may ↔ IsLegalCommit c.in-Commit.x updates c.args.steps.now)) c.as_slice.ensures c.may_commit.ensures)

pub returns-in-Arrive : goal.returns-in-Arrive
returns-in-Arrive c = subst (λ step. IfOk c.may_arrive.result (λ may. IsTrue may ↔ IsLegalStep c.args.steps.now step)) (sym c.in-Arrive.is) c.may_arrive.ensures

pub returns-in-Told : goal.returns-in-Told
returns-in-Told c = subst (λ step. IfOk c.is_true_notice.result (λ may. IsTrue may ↔ IsLegalStep c.args.steps.now step)) (sym c.in-Told.is) c.is_true_notice.ensures
