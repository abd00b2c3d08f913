use Rattle.std.proofs.Common.{◌-◌, length}
use Rattle.walter_durable.specs.Marks.{AreHeld}
use Rattle.walter_durable.specs.Counted.{copies_in}
use Rattle.walter_durable.proofs.copies.Copies.count_on.Given as goal

abbrev pub invariant-loop-counted : goal.invariant-loop-counted
invariant-loop-counted l = AreHeld (copies_in l.self l.acknowledged) l.counted

abbrev pub decreases-loop-counted : goal.decreases-loop-counted
decreases-loop-counted l = length l.self.preferred.items - l.counted
