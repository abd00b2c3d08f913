use Rattle.std.proofs.Common.{refl}
use Rattle.walter_txcode.proofs.Failures.{IfUnspelled-weaker, is_unspelled, is_fault, no_padded, no_padded_tail}
use Rattle.walter_txcode.proofs.vectors.read_padded.Goals as goal

pub returns-in_err-vector-clause-fault : goal.returns-in_err-vector-clause-fault
returns-in_err-vector-clause-fault c =
    is_unspelled c.from_residual.result c.from_residual.ensures.1 (no_padded c.args.sites c.args.cursor.now.left c.requires (c.in_err-vector.ensures.short.0 refl))

pub returns-in_err-read_zeros-clause-fault : goal.returns-in_err-read_zeros-clause-fault
returns-in_err-read_zeros-clause-fault c =
    let found = c.in_ok-vector in
    let fault = c.in_err-read_zeros in
    is_fault _ c.from_residual-in_err-read_zeros.result fault.field-0.0 c.from_residual-in_err-read_zeros.ensures.1
    (IfUnspelled-weaker fault.field-0.0 (no_padded_tail c.args.sites found.vector c.args.cursor.now.left c.read_numbers.new.cursor.left found.ensures.counted found.ensures.taken.front found.ensures.range) fault.ensures.fault)
