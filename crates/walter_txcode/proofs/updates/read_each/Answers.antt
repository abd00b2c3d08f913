use Rattle.std.proofs.Common.{arith}
use Rattle.walter_txcode.proofs.Failures.{IfUnspelled-weaker, is_fault, no_more_updates}
use Rattle.walter_txcode.proofs.updates.read_each.Goals as goal

pub returns-in_err-read_update-clause-fault : goal.returns-in_err-read_update-clause-fault
returns-in_err-read_update-clause-fault c =
    let fault = c.in_err-read_update in
    let loop = c.loop in
    is_fault _ c.from_residual-in_err-read_update.result fault.field-0.0 c.from_residual-in_err-read_update.ensures.1
    (IfUnspelled-weaker fault.field-0.0 (no_more_updates loop.updates.items c.args.count c.args.cursor.now.left loop.cursor.left loop.invariant.taken.front loop.invariant.range loop.invariant.short (omega (arith, loop.invariant.counted, c.loop-test.true))) fault.ensures.fault)
