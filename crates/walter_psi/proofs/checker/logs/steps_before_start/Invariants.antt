use Rattle.std.proofs.Common.{◌≡◌, take, drop, ◌++◌}
use Rattle.walter_psi.specs.Histories.{before_start}
use Rattle.walter_psi.proofs.checker.logs.steps_before_start.Given as goal

-- no start stands before the place
abbrev pub invariant-loop-place : goal.invariant-loop-place
invariant-loop-place l = before_start l.x l.steps ≡ take l.place l.steps ++ before_start l.x (drop l.place l.steps)
