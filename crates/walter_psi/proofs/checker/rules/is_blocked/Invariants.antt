use Rattle.std.proofs.Common.{take}
use Rattle.walter_base.specs.declared.names.Tid.{Tid}
use Rattle.walter_psi.specs.Histories.{snapshot, IsCommitted}
use Rattle.walter_psi.specs.Checking.{Blocks}
use Rattle.walter_psi.proofs.checker.rules.is_blocked.Given as goal

-- nothing that the steps so far commit blocks
abbrev pub invariant-loop-step : goal.invariant-loop-step
invariant-loop-step l = (y : Tid) → IsCommitted y (take l.step-index l.steps) → Blocks l.steps (snapshot l.x l.steps) l.x l.updates y → ⊥
