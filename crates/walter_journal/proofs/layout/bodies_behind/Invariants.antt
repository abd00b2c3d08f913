use Rattle.std.proofs.Common.{◌≡◌, ◌<◌, ◌++◌, length, take, All}
use Rattle.walter_journal.specs.Layout.{records, IsShort}
use Rattle.walter_journal.proofs.layout.bodies_behind.Given as goal

abbrev pub invariant-loop-rest : goal.invariant-loop-rest
invariant-loop-rest l = record { read : l.bytes ≡ take l.fn.from l.bytes ++ records l.bodies ++ l.rest; fit : All IsShort l.bodies; more : 0 < length l.rest }

abbrev pub decreases-loop-rest : goal.decreases-loop-rest
decreases-loop-rest l = length l.rest
