use Rattle.std.proofs.Common.{◌≡◌, ◌<◌, ◌++◌, length, All}
use Rattle.walter_journal.specs.Layout.{IsShort}
use Rattle.walter_checkpoint.specs.Packs.{entries}
use Rattle.walter_checkpoint.proofs.unpacking.read_entries.Given as goal

abbrev pub invariant-loop-rest : goal.invariant-loop-rest
invariant-loop-rest l = record { read : l.bytes ≡ entries l.sites l.bodies ++ l.rest; short : All IsShort l.bodies; more : 0 < length l.rest }

abbrev pub decreases-loop-rest : goal.decreases-loop-rest
decreases-loop-rest l = length l.rest
