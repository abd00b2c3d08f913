use Rattle.std.proofs.Common.{◌≡◌, take}
use Rattle.std.specs.Prelude.{◌+ℤ◌}
use Rattle.walter_base.specs.Values.{count_of}
use Rattle.walter_overlay.proofs.counting.count.Given as goal

-- the count after the updates so far
abbrev pub invariant-loop-update : goal.invariant-loop-update
invariant-loop-update l = l.count ≡ l.base +ℤ count_of l.oid l.id (take l.update-index l.updates)
