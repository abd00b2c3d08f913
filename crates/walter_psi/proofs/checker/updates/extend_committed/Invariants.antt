use Rattle.std.proofs.Common.{◌≡◌, take, ◌++◌}
use Rattle.walter_psi.specs.Histories.{committed_updates}
use Rattle.walter_psi.proofs.checker.updates.extend_committed.Given as goal

-- what the steps so far commit stands behind what was there
abbrev pub invariant-loop-step : goal.invariant-loop-step
invariant-loop-step l = l.updates.items ≡ l.fn.updates.items ++ committed_updates (take l.step-index l.steps) l.x
