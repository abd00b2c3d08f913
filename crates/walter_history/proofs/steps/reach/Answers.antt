use Rattle.std.proofs.Common.{All, sym, subst}
use Rattle.walter_history.specs.Reaches.{Reaches}
use Rattle.walter_history.specs.Steps.{AreLinked}
use Rattle.walter_history.proofs.Linked.{reach_all}
use Rattle.walter_history.proofs.steps.reach.Goals as goal

pub returns-in-Some : goal.returns-in-Some
returns-in-Some c =
    let split = c.in-Some.ensures.cases.0 in
    let vector = c.with_version.result in
    subst (λ ss. All (λ s. Reaches vector s.row.version) ss) (sym split)
    (reach_all c.in-Some.field-0-1.now c.in-Some.last.now vector (subst AreLinked split c.requires) c.with_version.ensures.keeps c.with_version.ensures.sees)
