use Rattle.std.proofs.Common.{◌≡◌, take}
use Rattle.walter_base.specs.Values.{write_set}
use Rattle.walter_psi.proofs.checker.rules.write_set_of.Given as goal

-- the objects so far are those that the updates so far write
abbrev pub invariant-loop-update : goal.invariant-loop-update
invariant-loop-update l = l.objects.items ≡ write_set (take l.update-index l.updates)
