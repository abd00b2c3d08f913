use Rattle.std.proofs.Common.{◌≡◌, take}
use Rattle.std.specs.Prelude.{option_copied}
use Rattle.walter_base.specs.Values.{value_of}
use Rattle.walter_psi.proofs.checker.answers.last_value.Given as goal

-- what is held is the value after the updates so far
abbrev pub invariant-loop-update : goal.invariant-loop-update
invariant-loop-update l = option_copied l.held ≡ value_of l.oid (take l.update-index l.updates)
