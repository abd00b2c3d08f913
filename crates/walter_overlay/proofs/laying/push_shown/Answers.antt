use Rattle.std.proofs.Common.{◌≡◌, ◌++◌, ◌∷◌, ◌+◌, ℕ, List, [], inl, inr, to_z, of_z, w64, ap, sym, ◌∙◌, subst, arith}
use Rattle.std.specs.Prelude.{ℤ, pos}
use Rattle.std.proofs.lemmas.Bool.{cases_lt}
use Rattle.std.proofs.lemmas.Int.{ints}
use Rattle.walter_overlay.specs.Laying.{AreNumbersBelow}
use Rattle.walter_overlay.proofs.Laid.{skipped, pushed}
use Rattle.walter_overlay.proofs.laying.push_shown.Goals as goal

pub returns-in_ok-push : goal.returns-in_ok-push
returns-in_ok-push c = λ end numbers are more none is.
    let same : to_z w64 (of_z w64 c.args.number) ≡ c.args.number = omega (arith, ints, c.ranges.number) in
    let items : c.push.new.self.items ≡ c.args.items.now.items ++ (c.args.id, c.args.number) ∷ [] =
    c.in_ok-push.ensures.items ∙ ap (λ (n : ℤ). c.args.items.now.items ++ (c.args.id, n) ∷ []) same in
    subst (AreNumbersBelow (c.args.id + 1) numbers) (sym {A = List (ℕ × ℤ)} items)
    (pushed c.args.id c.args.number numbers c.args.items.now.items is (λ zero. absurd (omega (arith, ints, c.if-number-ne0.true, zero)))
    (skipped end c.args.id numbers c.args.items.now.items more none are))

pub returns-else-number-ne0 : goal.returns-else-number-ne0
returns-else-number-ne0 c = λ end numbers are more none is.
    let zero : c.args.number ≡ pos 0 = omega (arith, ints, c.if-number-ne0.false) in
    skipped end (c.args.id + 1) numbers c.args.items.now.items (omega (arith, more))
    (λ other over less. elim (cases_lt other c.args.id) [
      | inl below ↦ none other over below
      | inr above ↦ let same : other ≡ c.args.id = omega (arith, above, less) in ap numbers same ∙ is ∙ zero
    ]) are
