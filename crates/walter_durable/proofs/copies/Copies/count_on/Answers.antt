use Rattle.std.proofs.Common.{arith}
use Rattle.walter_durable.specs.Counted.{copies_in}
use Rattle.walter_durable.proofs.Held.{held_more}
use Rattle.walter_durable.proofs.copies.Copies.count_on.Goals as goal

pub loop-counted-preserved : goal.loop-counted-preserved
loop-counted-preserved c =
    held_more (copies_in c.args.self.now c.args.acknowledged.now) c.loop-counted.counted c.loop-counted.invariant
    (omega (arith, c.loop-counted-test.true, c.own.ensures)) (c.is_held.ensures.0 c.if-not-is_held.false)
