use Rattle.std.proofs.Common.{take}
use Rattle.walter_psi.specs.Legal.{IsLegal}
use Rattle.walter_psi.proofs.checker.first_illegal.Given as goal

-- the steps so far are a legal history
abbrev pub invariant-loop-place : goal.invariant-loop-place
invariant-loop-place l = IsLegal (take l.place l.steps)
