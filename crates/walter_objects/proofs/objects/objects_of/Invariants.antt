use Rattle.std.proofs.Common.{◌≡◌, length}
use Rattle.walter_rules.specs.Objects.{objects_of}
use Rattle.walter_objects.proofs.Placed.{gathered}
use Rattle.walter_objects.proofs.objects.objects_of.Given as goal

-- those of the last updates are there
abbrev pub invariant-loop-update : goal.invariant-loop-update
invariant-loop-update l = gathered l.rest l.objects.items ≡ objects_of l.fn.updates

abbrev pub decreases-loop-update : goal.decreases-loop-update
decreases-loop-update l = length l.rest
