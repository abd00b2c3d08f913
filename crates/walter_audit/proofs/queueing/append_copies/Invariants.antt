use Rattle.std.proofs.Common.{◌≡◌, ◌++◌, take}
use Rattle.walter_audit.proofs.queueing.append_copies.Given as goal

abbrev pub invariant-loop-item : goal.invariant-loop-item
invariant-loop-item l = l.all.items ≡ l.initial.all.items ++ take l.item-index l.more
