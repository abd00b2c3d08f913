use Rattle.std.proofs.Common.{◌<◌, ℕ}
use Rattle.std.specs.HashSet.{contains}
use Rattle.walter_audit.specs.Walks.{same_version, GoesOn, next_at}
use Rattle.walter_audit.proofs.walking.next_item.Given as goal

-- none of the sites so far can go on
abbrev pub invariant-loop-site : goal.invariant-loop-site
invariant-loop-site l = (k : ℕ) → k < l.site → ¬ GoesOn (contains same_version l.taken) (next_at l.queues l.cursors k)
