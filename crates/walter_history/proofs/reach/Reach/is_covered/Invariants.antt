use Rattle.std.proofs.Common.{◌<◌, ◌≤◌, ℕ, slice_index}
use Rattle.walter_history.proofs.reach.Reach.is_covered.Given as goal

-- as far as was looked, the vector is at least as great
abbrev pub invariant-loop-site : goal.invariant-loop-site
invariant-loop-site l = (k : ℕ) → k < l.site → slice_index l.self k ≤ slice_index l.by k
