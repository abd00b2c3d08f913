use Rattle.std.proofs.Common.{refl, arith}
use Rattle.walter_fields.specs.Spellings.{number_spelled}
use Rattle.walter_txcode.proofs.Failures.{is_unspelled}
use Rattle.walter_txcode.proofs.Joined.{IsNumber, no_first, no_second, no_number, free_numbers}
use Rattle.walter_record.proofs.decoding.read_marks.Goals as goal

pub returns-in_err-durable-clause-fault : goal.returns-in_err-durable-clause-fault
returns-in_err-durable-clause-fault c =
    is_unspelled c.from_residual.result c.from_residual.ensures.1 (no_first IsNumber (number_spelled 8) (no_number (c.in_err-durable.ensures.short.0 refl)))

pub returns-in_err-visible-clause-fault : goal.returns-in_err-visible-clause-fault
returns-in_err-visible-clause-fault c =
    let exit = c.from_residual-in_err-visible in
    let durable = c.in_ok-durable in
    is_unspelled exit.result exit.ensures.1 (no_second free_numbers durable.durable (omega arith) durable.ensures.taken.front (no_number (c.in_err-visible.ensures.short.0 refl)))
