use Rattle.std.proofs.Common.{refl, arith}
use Rattle.walter_txcode.proofs.Failures.{IfUnspelled-weaker, is_unspelled, is_fault}
use Rattle.walter_txcode.proofs.Joined.{no_first, no_second, no_number, free_numbers}
use Rattle.walter_packet.specs.Spelling.{answer_spelled, IsAnswer}
use Rattle.walter_packet.proofs.answers.read_vote.Goals as goal

pub returns-in_err-slow-clause-fault : goal.returns-in_err-slow-clause-fault
returns-in_err-slow-clause-fault c = is_unspelled c.from_residual.result c.from_residual.ensures.1 (no_first IsAnswer answer_spelled (no_number (c.in_err-slow.ensures.short.0 refl)))

pub returns-in_err-answer-clause-fault : goal.returns-in_err-answer-clause-fault
returns-in_err-answer-clause-fault c =
    let exit = c.from_residual-in_err-answer in
    let fault = c.in_err-answer in
    is_fault _ exit.result fault.field-0.0 exit.ensures.1
    (IfUnspelled-weaker fault.field-0.0 (no_second free_numbers c.in_ok-slow.slow (omega arith) c.in_ok-slow.ensures.taken.front) fault.ensures.fault)
