use Rattle.std.proofs.Common.{sym, subst, ◌↔◌}
use Rattle.std.specs.Prelude.{IsTrue, IfOk}
use Rattle.walter_base.specs.Values.{AreCounts}
use Rattle.walter_psi.specs.Legal.{IsAnswer}
use Rattle.walter_psi.proofs.checker.answers.is_answer.Goals as goal

pub returns-in-Counts : goal.returns-in-Counts
returns-in-Counts c =
    subst (λ answer. IfOk c.are_counts.result (λ is. IsTrue is ↔ IsAnswer c.args.oid c.args.updates.now answer)) (sym c.in-Counts.is)
    (subst (λ counts. IfOk c.are_counts.result (λ is. IsTrue is ↔ AreCounts c.args.oid c.args.updates.now counts)) c.as_slice.ensures c.are_counts.ensures)
