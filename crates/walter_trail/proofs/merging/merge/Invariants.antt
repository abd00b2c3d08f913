use Rattle.std.proofs.Common.{◌≡◌, ◌++◌, drop}
use Rattle.walter_rules.specs.Merges.{named_from}
use Rattle.walter_trail.proofs.merging.merge.Given as goal

abbrev pub invariant-loop-site : goal.invariant-loop-site
invariant-loop-site l = l.entries.items ++ named_from l.site (drop l.site l.trails) ≡ named_from 0 l.trails
