use Rattle.std.proofs.Common.{◌≡◌, ◌++◌, map, take}
use Rattle.walter_trail.proofs.merging.add_trail.Given as goal

abbrev pub invariant-loop-entry : goal.invariant-loop-entry
invariant-loop-entry l = l.entries.items ≡ l.initial.entries.items ++ map (λ e. (l.site, e)) (take l.entry-index l.trail)
