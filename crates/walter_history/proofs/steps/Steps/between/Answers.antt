use Rattle.std.proofs.Common.{◌≡◌, ◌-◌, List, length, take, drop, ap, sym, ◌∙◌, subst, arith}
use Rattle.std.proofs.lemmas.List.{take_all, length-drop}
use Rattle.walter_history.specs.declared.steps.Step.{Step}
use Rattle.walter_history.specs.Steps.{told, AreSeenBefore, AreBehind}
use Rattle.walter_history.proofs.Linked.{are_behind}
use Rattle.walter_history.proofs.steps.Steps.between.Goals as goal

pub returns : goal.returns
returns c =
    let from = c.args.from.now in
    let to = c.args.to.now in
    let items = c.self.inside.items.items in
    let all = c.deref-2.result.now in
    let place = c.first_between-place.result in
    let seen = subst (λ (ss : List Step). AreSeenBefore place from to ss) c.deref.ensures.value c.first_between-place.ensures.seen in
    let whole : take (length all - place) (drop place all) ≡ drop place items =
    take_all (length all - place) (drop place all) (omega (arith, length-drop place all)) ∙ ap (drop place) c.deref-2.ensures.value in
    subst (λ rows. AreBehind from to rows (told (take (length all - place) (drop place all)))) (ap (λ s. s.rows) c.self.view_is)
    (subst (λ (back : List Step). AreBehind from to (told items) (told back)) (sym {A = List Step} whole) (are_behind items place from to seen))
