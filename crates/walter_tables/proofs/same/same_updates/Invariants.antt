use Rattle.std.proofs.Common.{◌≡◌, take}
use Rattle.walter_tables.proofs.same.same_updates.Given as goal

-- those so far are the same
abbrev pub invariant-loop-place : goal.invariant-loop-place
invariant-loop-place l = take l.place l.updates ≡ take l.place l.others
