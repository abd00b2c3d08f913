use Rattle.std.proofs.Common.{refl, arith}
use Rattle.walter_txcode.proofs.Failures.{is_unspelled, no_width, other_width, no_numbers}
use Rattle.walter_txcode.proofs.vectors.read_told.Goals as goal

pub returns-in_err-width-clause-fault : goal.returns-in_err-width-clause-fault
returns-in_err-width-clause-fault c =
    is_unspelled c.from_residual.result c.from_residual.ensures.1
    (λ v rest long fits. no_width c.args.cursor.now.left v rest (c.in_err-width.ensures.short.0 refl))

pub returns-then-width-sites-clause-fault : goal.returns-then-width-sites-clause-fault
returns-then-width-sites-clause-fault c = λ v rest long fits.
    other_width c.args.sites c.in_ok-width.width c.args.cursor.now.left c.u8.new.self.left c.requires (omega arith) c.if-width-sites.true c.in_ok-width.ensures.taken.front v rest long

pub returns-in_err-vector-clause-fault : goal.returns-in_err-vector-clause-fault
returns-in_err-vector-clause-fault c =
    is_unspelled c.from_residual-in_err-vector.result c.from_residual-in_err-vector.ensures.1
    (λ v rest long fits. no_numbers c.args.sites c.in_ok-width.width c.args.cursor.now.left c.u8.new.self.left c.requires (omega arith) c.in_ok-width.ensures.taken.front (c.in_err-vector.ensures.short.0 refl) v rest long)
