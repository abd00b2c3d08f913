use Rattle.std.proofs.Common.{◌≡◌, take}
use Rattle.walter_psi.specs.Histories.{log}
use Rattle.walter_psi.proofs.checker.logs.log_of.Given as goal

-- what was found is the log of the steps so far
abbrev pub invariant-loop-step : goal.invariant-loop-step
invariant-loop-step l = l.found.items ≡ log l.site (take l.step-index l.steps)
