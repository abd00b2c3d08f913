use Rattle.std.proofs.Common.{arith}
use Rattle.walter_txcode.proofs.Failures.{IfUnspelled-weaker, is_fault}
use Rattle.walter_packet.proofs.Votes.{no_refusal, no_such_answer}
use Rattle.walter_packet.proofs.answers.read_answer_fields.Goals as goal

pub returns-in_err-conflict-in-0-clause-fault : goal.returns-in_err-conflict-in-0-clause-fault
returns-in_err-conflict-in-0-clause-fault c =
    let exit = c.from_residual in
    let fault = c.in_err-conflict-in-0 in
    is_fault _ exit.result fault.field-0.0 exit.ensures.1 (IfUnspelled-weaker fault.field-0.0 (no_refusal c.args.kind c.args.cursor.now.left c.in-0.is) fault.ensures.fault)

pub returns-in_default-clause-fault : goal.returns-in_default-clause-fault
returns-in_default-clause-fault c = no_such_answer c.args.kind c.args.cursor.now.left (λ e. omega (arith, e)) (λ e. omega (arith, e)) (λ e. omega (arith, e))
