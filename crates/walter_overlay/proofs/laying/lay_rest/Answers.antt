use Rattle.std.proofs.Common.{◌≡◌, ◌+◌, [], ◌∷◌, drop, get_or, to_z, of_z, w64, sym, ◌∙◌, subst, arith}
use Rattle.std.specs.Prelude.{pos}
use Rattle.std.proofs.lemmas.Int.{ints}
use Rattle.std.proofs.lemmas.List.{at_drop_more}
use Rattle.walter_overlay.specs.Laying.{AreLaid}
use Rattle.walter_overlay.proofs.Laid.{lay_move}
use Rattle.walter_overlay.proofs.laying.lay_rest.Goals as goal

pub loop-next-preserved : goal.loop-next-preserved
loop-next-preserved c =
    let moves = c.args.moves.now in
    let n = c.loop-next.next in
    let e = get_or moves n (0, pos 0) in
    let same : to_z w64 (of_z w64 e.1) ≡ e.1 = omega (arith, ints) in
    let here : drop n moves ≡ e ∷ drop (n + 1) moves = at_drop_more (λ es. es) moves n (0, pos 0) (omega (arith, c.loop-next-test.true)) in
    record {
      within = omega (arith, c.loop-next-test.true);
      laid = λ numbers was.
          lay_move numbers [] e (drop (n + 1) moves) c.loop-next.items.items c.push_shown.new.items.items tt
          (λ end f below before none is. c.in_ok-push_shown.ensures end f below before none (is ∙ sym same))
          (subst (λ es. AreLaid numbers [] es c.loop-next.items.items) here (c.loop-next.invariant.laid numbers was));
    }
