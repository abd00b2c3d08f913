use Rattle.std.proofs.Common.{◌≡◌, take}
use Rattle.walter_audit.proofs.equal.are_equal.Given as goal

-- those so far are equal
abbrev pub invariant-loop-place : goal.invariant-loop-place
invariant-loop-place l = take l.place l.updates ≡ take l.place l.others
