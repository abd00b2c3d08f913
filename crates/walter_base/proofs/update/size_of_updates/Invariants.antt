use Rattle.std.proofs.Common.{◌≡◌, ◌+◌, drop}
use Rattle.std.specs.Prelude.{sum_by}
use Rattle.walter_base.specs.Sizes.{size_of_update, size_of_updates}
use Rattle.walter_base.proofs.update.size_of_updates.Given as goal

-- the bytes so far and those of the updates to come are all
abbrev pub invariant-loop-update : goal.invariant-loop-update
invariant-loop-update l = l.size + sum_by size_of_update (drop l.update-index l.updates) ≡ size_of_updates l.updates
