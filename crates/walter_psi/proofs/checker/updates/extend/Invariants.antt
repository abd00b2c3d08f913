use Rattle.std.proofs.Common.{◌≡◌, take, ◌++◌}
use Rattle.walter_psi.proofs.checker.updates.extend.Given as goal

-- copies of those so far stand behind what was there
abbrev pub invariant-loop-update : goal.invariant-loop-update
invariant-loop-update l = l.updates.items ≡ l.fn.updates.items ++ take l.update-index l.more
