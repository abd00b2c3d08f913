use Rattle.std.proofs.Common.{◌∙◌, ap, Some}
use Rattle.walter_psi.proofs.checker.rules.is_version_of.Goals as goal

pub returns-in-Some : goal.returns-in-Some
returns-in-Some c =
    let found = c.in_ok-y.ensures c.args.x in (
      λ same. found.0 (c.in-Some.is ∙ ap (λ z. Some z) (c.is_same.ensures.0 same)),
      λ version. c.is_same.ensures.1 (let at = found.1 version in let is = c.in-Some.is in cc),
    )

pub returns-in-None : goal.returns-in-None
returns-in-None c = (
  λ no. absurd cc,
  λ version. let at = (c.in_ok-y.ensures c.args.x).1 version in let is = c.in-None.is in absurd cc,
)
