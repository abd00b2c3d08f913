use Rattle.std.proofs.Common.{not, filter, List, rules, ap, sym, ◌∙◌, subst}
use Rattle.std.proofs.lemmas.Fn.{filter_same}
use Rattle.walter_base.specs.declared.update.Row.{Row}
use Rattle.walter_history.specs.declared.steps.Step.{Step}
use Rattle.walter_history.specs.Rows.{sees_row}
use Rattle.walter_history.specs.Steps.{told, AreLinked}
use Rattle.walter_history.proofs.Linked.{linked_filter, told_filter}
use Rattle.walter_history.proofs.steps.Steps.fold.Goals as goal

pub invariant_of-self : goal.invariant_of-self
invariant_of-self c =
    let left = filter_same _ (λ (s : Step). not (sees_row c.args.floor.now s.row)) _ (λ x b f' call. search rules) _ _ c.retain.ensures.filtered in
    subst AreLinked (sym {A = List Step} left) (linked_filter (λ (s : Step). not (sees_row c.args.floor.now s.row)) c.self.inside.items.items c.self.invariant)

pub returns-clause-rows : goal.returns-clause-rows
returns-clause-rows c =
    let left = filter_same _ (λ (s : Step). not (sees_row c.args.floor.now s.row)) _ (λ x b f' call. search rules) _ _ c.retain.ensures.filtered in
    ap told left ∙ told_filter (λ (row : Row). not (sees_row c.args.floor.now row)) c.self.inside.items.items
    ∙ ap (λ s. filter (λ (row : Row). not (sees_row c.args.floor.now row)) s.rows) c.self.view_is
