use Rattle.std.proofs.Common.{sym, subst, ◌↔◌}
use Rattle.std.specs.Prelude.{IsTrue, IfOk}
use Rattle.walter_psi.specs.Legal.{IsTrueNotice}
use Rattle.walter_psi.proofs.checker.rules.is_true_notice.Goals as goal

pub returns-in-Version : goal.returns-in-Version
returns-in-Version c =
    subst (λ told. IfOk c.is_version_of.result (λ is. IsTrue is ↔ IsTrueNotice c.args.x c.args.steps.now told)) (sym c.in-Version.is) c.is_version_of.ensures
