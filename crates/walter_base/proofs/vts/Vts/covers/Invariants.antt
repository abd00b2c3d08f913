use Rattle.std.proofs.Common.{◌<◌, ◌≤◌, ℕ, slice_index}
use Rattle.walter_base.proofs.vts.Vts.covers.Given as goal

-- as far as was looked, it is at least as great
abbrev pub invariant-loop-site : goal.invariant-loop-site
invariant-loop-site l = (k : ℕ) → k < l.site → slice_index l.other k ≤ slice_index l.self k
