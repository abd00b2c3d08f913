use Rattle.std.proofs.Common.{refl}
use Rattle.walter_txcode.proofs.Failures.{is_unspelled, no_value_at_all, no_value_without_block, no_value_of_long}
use Rattle.walter_txcode.proofs.updates.read_value.Goals as goal

pub returns-in_err-oid-clause-fault : goal.returns-in_err-oid-clause-fault
returns-in_err-oid-clause-fault c =
    is_unspelled c.from_residual.result c.from_residual.ensures.1 (λ oid bytes rest fits short. no_value_at_all c.args.cursor.now.left (c.in_err-oid.ensures.short.0 refl) oid bytes rest)

pub returns-in_err-bytes-clause-fault : goal.returns-in_err-bytes-clause-fault
returns-in_err-bytes-clause-fault c =
    let exit = c.from_residual-in_err-bytes in
    is_unspelled exit.result exit.ensures.1
    (no_value_without_block c.args.cursor.now.left c.read_object.new.cursor.left c.in_ok-oid.oid c.in_ok-oid.ensures.range c.in_ok-oid.ensures.taken.front (c.in_err-bytes.ensures.short.0 refl))

pub returns-then-bytes-gt-LONGEST_VALUE-clause-fault : goal.returns-then-bytes-gt-LONGEST_VALUE-clause-fault
returns-then-bytes-gt-LONGEST_VALUE-clause-fault c =
    let found = c.in_ok-bytes in
    no_value_of_long c.args.cursor.now.left c.read_object.new.cursor.left found.bytes.now c.block.new.self.left c.in_ok-oid.oid c.in_ok-oid.ensures.range c.in_ok-oid.ensures.taken.front found.ensures.taken.front found.ensures.counted c.if-bytes-gt-LONGEST_VALUE.true
