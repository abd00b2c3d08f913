use Rattle.std.proofs.Common.{◌-◌}
use Rattle.walter_audit.proofs.Standing.{IsBetween}
use Rattle.walter_audit.proofs.starting.first_covering.Given as goal

-- those before the one place don't cover the start, and the one at the other does
abbrev pub invariant-loop-low : goal.invariant-loop-low
invariant-loop-low l = IsBetween l.fronts l.start l.low l.high

abbrev pub decreases-loop-low : goal.decreases-loop-low
decreases-loop-low l = l.high - l.low
