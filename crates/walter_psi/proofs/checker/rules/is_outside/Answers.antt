use Rattle.std.proofs.Common.{◌≡◌, subst}
use Rattle.walter_base.specs.declared.names.Tid.{Tid}
use Rattle.walter_psi.specs.Legal.{IsOutside}
use Rattle.walter_psi.specs.Checking.{IsUnseenWriter}
use Rattle.walter_psi.proofs.CheckerLists.{tells_same}
use Rattle.walter_psi.proofs.checker.rules.is_outside.Goals as goal

pub returns-in-Some : goal.returns-in-Some
returns-in-Some c =
    let steps = c.args.steps.now in
    let is = c.in-Some.is in
    tells_same c.is_unseen_writer.result (IsUnseenWriter c.args.x steps c.args.oid c.in-Some.y) (IsOutside c.args.x steps c.args.oid c.args.version)
    (λ unseen. (c.in-Some.y, (c.in_ok-y.ensures c.in-Some.y).0 is, unseen.0, unseen.1))
    (λ outside.
    let at = (c.in_ok-y.ensures outside.0).1 outside.1 in
    let same : outside.0 ≡ c.in-Some.y = cc in
    subst (λ (y : Tid). IsUnseenWriter c.args.x steps c.args.oid y) same (outside.2, outside.3))
    c.is_unseen_writer.ensures

pub returns-in-None : goal.returns-in-None
returns-in-None c = (
  λ no. absurd cc,
  λ outside. let at = (c.in_ok-y.ensures outside.0).1 outside.1 in let is = c.in-None.is in absurd cc,
)
