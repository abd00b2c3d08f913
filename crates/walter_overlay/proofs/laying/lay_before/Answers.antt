use Rattle.std.proofs.Common.{◌≡◌, ◌+◌, ◌∷◌, drop, get_or, to_z, of_z, w64, sym, ◌∙◌, subst, arith}
use Rattle.std.specs.Prelude.{pos}
use Rattle.std.proofs.lemmas.Int.{ints}
use Rattle.std.proofs.lemmas.List.{at_drop_more}
use Rattle.walter_overlay.specs.Laying.{IsRisingFrom, AreLaid}
use Rattle.walter_overlay.proofs.Laid.{lay_move}
use Rattle.walter_overlay.proofs.laying.lay_before.Goals as goal

pub loop-next-preserved : goal.loop-next-preserved
loop-next-preserved c =
    let moves = c.args.moves.now in
    let n = c.loop-next.next in
    let e = get_or moves n (0, pos 0) in
    let same : to_z w64 (of_z w64 e.1) ≡ e.1 = omega (arith, ints) in
    let here : drop n moves ≡ e ∷ drop (n + 1) moves = at_drop_more (λ es. es) moves n (0, pos 0) (omega (arith, c.loop-next-test.true)) in
    record {
      within = omega (arith, c.loop-next-test.true);
      laid = λ numbers number others was.
          let are = subst (λ es. AreLaid numbers ((c.args.id, number) ∷ others) es c.loop-next.items.items) here (c.loop-next.invariant.laid numbers number others was) in
          lay_move numbers ((c.args.id, number) ∷ others) e (drop (n + 1) moves) c.loop-next.items.items c.push_shown.new.items.items
          (omega (arith, c.if-moves-next.true), are.of_base.1)
          (λ end f below before none is. c.in_ok-push_shown.ensures end f below before none (is ∙ sym same)) are;
    }

pub returns-else-moves-next-clause-laid : goal.returns-else-moves-next-clause-laid
returns-else-moves-next-clause-laid c = λ numbers number others was.
    let moves = c.args.moves.now in
    let n = c.loop-next.next in
    let e = get_or moves n (0, pos 0) in
    let here : drop n moves ≡ e ∷ drop (n + 1) moves = at_drop_more (λ es. es) moves n (0, pos 0) (omega (arith, c.loop-next-test.true)) in
    let are = c.loop-next.invariant.laid numbers number others was in
    let from = subst (IsRisingFrom are.end) here are.of_moves in
    (are, subst (IsRisingFrom c.args.id) (sym here) (omega (arith, c.if-moves-next.false), from.1))
