use Rattle.std.proofs.Common.{◌≡◌, take, length}
use Rattle.walter_psi.proofs.checker.rules.same_updates.Given as goal

-- the updates so far are the same
abbrev pub invariant-loop-update : goal.invariant-loop-update
invariant-loop-update l = take (length l.yielded) l.updates ≡ take (length l.yielded) l.others
