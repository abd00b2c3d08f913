use Rattle.std.proofs.Common.{◌≤◌, length}
use Rattle.walter_history.proofs.steps.stride_back.Given as goal

abbrev pub invariant-loop-stride : goal.invariant-loop-stride
invariant-loop-stride l = (l.end ≤ length l.steps) × (1 ≤ l.stride)

abbrev pub decreases-loop-stride : goal.decreases-loop-stride
decreases-loop-stride l = l.end
