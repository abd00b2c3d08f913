use Rattle.std.proofs.Common.{◌≤◌, ◌-◌, length}
use Rattle.walter_history.specs.Steps.{AreSeenBefore}
use Rattle.walter_history.proofs.steps.halve.Given as goal

abbrev pub invariant-loop-place : goal.invariant-loop-place
invariant-loop-place l = (l.place ≤ l.end) × (l.end ≤ length l.steps) × AreSeenBefore l.place l.from l.to l.steps

abbrev pub decreases-loop-place : goal.decreases-loop-place
decreases-loop-place l = l.end - l.place
