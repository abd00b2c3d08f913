use Rattle.std.proofs.Common.{refl, arith}
use Rattle.walter_txcode.specs.Spelling.{spelling, HasSpelling}
use Rattle.walter_txcode.proofs.Failures.{IfUnspelled-weaker, is_unspelled, is_fault}
use Rattle.walter_txcode.proofs.Joined.{no_first, no_second, no_number, free_numbers}
use Rattle.walter_txcode.proofs.decoding.read_numbered.Goals as goal

pub returns-in_err-number-clause-fault : goal.returns-in_err-number-clause-fault
returns-in_err-number-clause-fault c =
    is_unspelled c.from_residual.result c.from_residual.ensures.1 (no_first (HasSpelling c.args.format c.args.sites) (spelling c.args.format) (no_number (c.in_err-number.ensures.short.0 refl)))

pub returns-in_err-tx-clause-fault : goal.returns-in_err-tx-clause-fault
returns-in_err-tx-clause-fault c =
    let exit = c.from_residual-in_err-tx in
    let fault = c.in_err-tx in
    is_fault _ exit.result fault.field-0.0 exit.ensures.1
    (IfUnspelled-weaker fault.field-0.0 (no_second free_numbers c.in_ok-number.number (omega arith) c.in_ok-number.ensures.taken.front) fault.ensures.fault)
