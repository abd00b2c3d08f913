use Rattle.std.proofs.Common.{◌≡◌, ◌+◌, ◌-◌, ℕ, true, false, Some, [], take, drop, refl, ap, sym, ◌∙◌, subst, arith}
use Rattle.std.specs.Prelude.{slice_get}
use Rattle.std.proofs.lemmas.Bool.{le-leb, leb-true, false_from_ne_true}
use Rattle.std.proofs.lemmas.Option.{slice_get_read}
use Rattle.walter_base.specs.declared.update.Row.{Row}
use Rattle.walter_history.specs.Folded.{IsFrontSeen}
use Rattle.walter_history.specs.Rows.{sees_row, seen_updates}
use Rattle.walter_history.proofs.Fronts.{back_more, none_behind}
use Rattle.walter_history.proofs.folding.seen_front.Goals as goal
use Rattle.walter_history.proofs.folding.seen_front.Goals.{then-sees, else-sees}

pub loop-place-preserved : goal.loop-place-preserved
loop-place-preserved c =
    let v = c.args.by.now in
    let rows = c.args.rows.now in
    let i = c.loop-place.place in
    let row = c.index-rows-place.result in
    let inv = c.loop-place.invariant in
    elim c.if-sees.branch [
      | then-sees w ↦
          let sees : sees_row v row ≡ true = subst (λ (r : Row). sees_row v r ≡ true) (sym c.index-rows-place.is) (le-leb _ _ (c.sees.ensures.0 w.if-sees.true)) in
          let here : slice_get rows (i + 1 - 1) ≡ Some row = ap (slice_get rows) (omega arith) ∙ slice_get_read rows _ i row refl c.loop-place-test.true c.index-rows-place.is in
          record {
            within = omega (arith, w.front-is);
            front = subst (λ (n : ℕ). IsFrontSeen v rows n) (sym w.front-is) (λ some. (row, here, sees));
            back = subst (λ (n : ℕ). seen_updates v (drop n (take (i + 1) rows)) ≡ []) (sym w.front-is) (none_behind v rows (i + 1));
          }
      | else-sees w ↦
          let unseen : sees_row v row ≡ false = false_from_ne_true (sees_row v row)
          (λ passes. let yes = c.sees.ensures.1 (leb-true _ _ (subst (λ (r : Row). sees_row v r ≡ true) c.index-rows-place.is passes)) in let no = w.if-sees.false in cc) in
          record {
            within = omega (arith, w.front-is, inv.within);
            front = subst (λ (n : ℕ). IsFrontSeen v rows n) (sym w.front-is) inv.front;
            back = subst (λ (n : ℕ). seen_updates v (drop n (take (i + 1) rows)) ≡ []) (sym w.front-is)
                (back_more v rows c.loop-place.front i row inv.within c.loop-place-test.true c.index-rows-place.is unseen inv.back);
          }
    ]
