use Rattle.std.proofs.Common.{◌≡◌, ◌+◌, ◌∷◌, drop, get_or, sym, subst, arith}
use Rattle.std.specs.Prelude.{pos}
use Rattle.std.proofs.lemmas.List.{at_drop_more, drop_all}
use Rattle.walter_overlay.specs.Laying.{IsRisingFrom}
use Rattle.walter_overlay.proofs.Laid.{not_at}
use Rattle.walter_overlay.proofs.laying.move_of.Goals as goal
use Rattle.walter_overlay.proofs.laying.move_of.Goals.{else-place-moves-via-then-place-moves+else-moves-place, else-place-moves-via-else-place-moves}

pub returns-else-place-moves-clause-behind : goal.returns-else-place-moves-clause-behind
returns-else-place-moves-clause-behind c = λ rising.
    let moves = c.args.moves.now in
    let n = c.args.place in
    elim c.else-place-moves.branch [
      | else-place-moves-via-then-place-moves+else-moves-place w ↦
          let e = get_or moves n (0, pos 0) in
          let here : drop n moves ≡ e ∷ drop (n + 1) moves = at_drop_more (λ es. es) moves n (0, pos 0) (omega (arith, w.if-place-moves.true)) in
          let from = subst (IsRisingFrom c.args.id) here rising in
          not_at c.args.id (drop n moves) (subst (IsRisingFrom (c.args.id + 1)) (sym here) (omega (arith, from.0, w.if-moves-place.false), from.1))
      | else-place-moves-via-else-place-moves w ↦
          not_at c.args.id (drop n moves) (subst (IsRisingFrom (c.args.id + 1)) (sym (drop_all n moves (omega (arith, w.if-place-moves.false)))) tt)
    ]
