use Rattle.std.proofs.Common.{◌≡◌, ◌<◌, ℕ, None}
use Rattle.walter_audit.specs.Walks.{next_at}
use Rattle.walter_audit.proofs.walking.first_left.Given as goal

-- nothing is left of the sites so far
abbrev pub invariant-loop-site : goal.invariant-loop-site
invariant-loop-site l = (k : ℕ) → k < l.site → next_at l.queues l.cursors k ≡ None
