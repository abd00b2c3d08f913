use Rattle.std.proofs.Common.{◌≡◌, take}
use Rattle.std.specs.Prelude.{flat_map}
use Rattle.walter_psi.specs.Histories.{committed_updates}
use Rattle.walter_psi.proofs.checker.updates.committed_by.Given as goal

-- what was found is what the transactions so far have committed
abbrev pub invariant-loop-x : goal.invariant-loop-x
invariant-loop-x l = l.found.items ≡ flat_map (committed_updates l.steps) (take l.x-index l.transactions)
