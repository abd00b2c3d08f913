use Rattle.std.specs.HashSet.{contains}
use Rattle.walter_audit.specs.Walks.{same_version}
use Rattle.walter_audit.proofs.Walks.{IsWalkTo, left_total}
use Rattle.walter_audit.proofs.walking.take_items.Given as goal

-- so many items of each site were taken in this order
abbrev pub invariant-loop-cursors : goal.invariant-loop-cursors
invariant-loop-cursors l = IsWalkTo l.queues (contains same_version l.taken) l.order.items l.cursors.items

abbrev pub decreases-loop-cursors : goal.decreases-loop-cursors
decreases-loop-cursors l = left_total l.queues l.cursors.items
