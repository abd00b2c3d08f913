use Rattle.std.proofs.Common.{◌≡◌, take}
use Rattle.walter_psi.specs.Histories.{commits}
use Rattle.walter_psi.proofs.checker.logs.commits_of.Given as goal

-- what was found is the commits of the steps so far
abbrev pub invariant-loop-step : goal.invariant-loop-step
invariant-loop-step l = l.found.items ≡ commits l.site (take l.step-index l.steps)
