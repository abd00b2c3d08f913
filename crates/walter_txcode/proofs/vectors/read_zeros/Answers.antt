use Rattle.std.proofs.Common.{refl, arith}
use Rattle.walter_txcode.proofs.Failures.{is_unspelled, no_more_zeros, no_zero_at_all, no_zero_but}
use Rattle.walter_txcode.proofs.vectors.read_zeros.Goals as goal

pub returns-in_err-u64-clause-fault : goal.returns-in_err-u64-clause-fault
returns-in_err-u64-clause-fault c =
    is_unspelled c.from_residual.result c.from_residual.ensures.1
    (no_more_zeros c.args.count c.loop.counter c.args.cursor.now.left c.loop.cursor.left c.loop.invariant.front c.loop-test.true (no_zero_at_all c.loop.cursor.left (c.in_err-u64.ensures.short.0 refl)))

pub returns-then-branch-ne0-clause-fault : goal.returns-then-branch-ne0-clause-fault
returns-then-branch-ne0-clause-fault c =
    no_more_zeros c.args.count c.loop.counter c.args.cursor.now.left c.loop.cursor.left c.loop.invariant.front c.loop-test.true
    (no_zero_but c.in_ok-u64.field-0 c.loop.cursor.left c.u64.new.self.left (omega arith) c.if-branch-ne0.true c.in_ok-u64.ensures.taken.front)
