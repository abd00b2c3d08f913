use Rattle.std.proofs.Common.{◌∙◌, subst, sym, List, ◌↔◌}
use Rattle.std.specs.Prelude.{Contains, IfOk, IsTrue}
use Rattle.walter_base.specs.declared.update.Update.{Update}
use Rattle.walter_base.specs.Values.{write_set}
use Rattle.walter_psi.specs.Legal.{IsOutside, IsCauseOfAbort}
use Rattle.walter_base.specs.declared.transaction.Cause.TheVariants.{Modified}
use Rattle.walter_psi.proofs.CheckerLists.{tells_same}
use Rattle.walter_psi.proofs.checker.rules.is_cause.Goals as goal

pub returns-in-Modified : goal.returns-in-Modified
returns-in-Modified c =
    let steps = c.args.steps.now in
    let oid = c.in-Modified.oid in
    let own = c.deref.ensures.value ∙ c.in_ok-own.ensures in
    let writes = subst (λ (updates : List Update). Contains (write_set updates) oid) own (c.in_ok-writes-in-Modified.ensures.0 c.if-not-branch.false) in
    subst (λ cause. IfOk c.is_outside.result (λ is. IsTrue is ↔ IsCauseOfAbort c.args.x steps cause)) (sym c.in-Modified.is)
    (tells_same c.is_outside.result (IsOutside c.args.x steps oid c.in-Modified.version) (IsCauseOfAbort c.args.x steps (Modified oid c.in-Modified.version))
    (λ outside. (writes, outside)) (λ cause. cause.1) c.is_outside.ensures)
