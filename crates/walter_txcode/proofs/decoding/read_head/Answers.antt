use Rattle.std.proofs.Common.{refl, arith}
use Rattle.walter_txcode.proofs.Failures.{IfUnspelled-weaker, is_unspelled, is_fault, NoHead-from_few, NoHead-without_number, NoHead-without_vector}
use Rattle.walter_txcode.proofs.decoding.read_head.Goals as goal

pub returns-in_err-tid-clause-fault : goal.returns-in_err-tid-clause-fault
returns-in_err-tid-clause-fault c =
    let few = c.in_err-tid.ensures.short.0 refl in
    is_unspelled c.from_residual.result c.from_residual.ensures.1 (NoHead-from_few c.args.format c.args.sites c.args.cursor.now.left (omega (arith, few)))

pub returns-in_err-slow-clause-fault : goal.returns-in_err-slow-clause-fault
returns-in_err-slow-clause-fault c =
    let exit = c.from_residual-in_err-slow in
    is_unspelled exit.result exit.ensures.1
    (NoHead-without_number c.args.format c.args.sites c.in_ok-tid.tid c.args.cursor.now.left c.read_tid.new.cursor.left c.in_ok-tid.ensures.taken.front (c.in_err-slow.ensures.short.0 refl))

pub returns-in_err-start-clause-fault : goal.returns-in_err-start-clause-fault
returns-in_err-start-clause-fault c =
    let exit = c.from_residual-in_err-start in
    let fault = c.in_err-start in
    is_fault _ exit.result fault.field-0.0 exit.ensures.1
    (IfUnspelled-weaker fault.field-0.0 (NoHead-without_vector c.args.format c.args.sites c.in_ok-tid.tid c.in_ok-slow.slow c.args.cursor.now.left c.read_tid.new.cursor.left c.u64.new.self.left c.in_ok-tid.ensures.range (omega arith) c.in_ok-tid.ensures.taken.front c.in_ok-slow.ensures.taken.front) fault.ensures.fault)
