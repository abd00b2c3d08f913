use Rattle.std.proofs.Common.{◌≡◌, take}
use Rattle.walter_psi.specs.Histories.{own_updates}
use Rattle.walter_psi.proofs.checker.updates.own_updates_of.Given as goal

-- what was found is what the steps so far do
abbrev pub invariant-loop-step : goal.invariant-loop-step
invariant-loop-step l = l.found.items ≡ own_updates l.x (take l.step-index l.steps)
