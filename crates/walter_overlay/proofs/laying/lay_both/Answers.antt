use Rattle.std.proofs.Common.{drop, arith}
use Rattle.std.proofs.lemmas.Int.{ints}
use Rattle.walter_overlay.proofs.Laid.{lay_base}
use Rattle.walter_overlay.proofs.laying.lay_both.Goals as goal

pub returns-clause-laid : goal.returns-clause-laid
returns-clause-laid c = λ numbers others are.
    let moves = c.args.moves.now in
    let behind = c.move_of-by.ensures.behind c.requires.rising in
    lay_base numbers c.args.id c.args.number c.move_of-by.result.0 others (drop c.args.place moves) (drop c.move_of-by.result.1 moves)
    c.args.items.now.items c.push_shown.new.items.items c.requires.rising behind
    (λ end f below before none is.
    c.in_ok-push_shown.ensures end f below before none (omega (arith, ints, is, c.requires.fits.0, c.requires.fits.1, behind.here))) are
