use Rattle.std.proofs.Common.{◌≡◌, ◌∙◌, ℕ, List, [], ◌++◌, ap, sym, subst}
use Rattle.std.specs.Prelude.{ℤ}
use Rattle.std.proofs.lemmas.List.{append-nil}
use Rattle.walter_cset.specs.Tallies.{number_at, AreNumbers}
use Rattle.walter_cset.proofs.Numbers.{are_numbers, others_than_0}
use Rattle.walter_cset.proofs.tally.shown.Goals as goal

-- none is to come
pub returns : goal.returns
returns c =
    let last : others_than_0 c.loop-id.id-iterator ≡ [] = ap others_than_0 (c.in-None.ensures.steps.0) in
    let all : c.loop-id.items.items ≡ others_than_0 c.args.tally.now.entries =
    sym (append-nil c.loop-id.items.items) ∙ ap (λ (rest : List (ℕ × ℤ)). c.loop-id.items.items ++ rest) (sym last) ∙ c.loop-id.invariant in
    subst (AreNumbers (number_at c.args.tally.now)) (sym {A = List (ℕ × ℤ)} (c.from.ensures ∙ all)) (are_numbers c.args.tally.now c.into_iter-id-iterator.ensures.into_iter_gives.5)
