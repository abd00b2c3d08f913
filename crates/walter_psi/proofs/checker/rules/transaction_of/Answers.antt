use Rattle.std.proofs.Common.{◌-◌, ap, ◌∙◌, slice_get, List}
use Rattle.walter_base.specs.declared.names.Tid.{Tid}
use Rattle.walter_psi.proofs.CheckerLists.{version_at}
use Rattle.walter_psi.proofs.checker.rules.transaction_of.Goals as goal

pub returns : goal.returns
returns c =
    version_at c.args.steps.now c.args.version c.element_at.result c.if-version-eq0.false
    (c.element_at.ensures ∙ ap (λ (all : List Tid). slice_get all (c.args.version.seq - 1)) (c.deref.ensures.value ∙ c.in_ok-commits.ensures))
