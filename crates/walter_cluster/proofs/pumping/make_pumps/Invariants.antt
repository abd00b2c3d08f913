use Rattle.std.proofs.Common.{◌≡◌, map, vec_capacity}
use Rattle.std.specs.List.{range_with_len}
use Rattle.walter_cluster.proofs.Pumps.{pump_of}
use Rattle.walter_cluster.proofs.pumping.make_pumps.Given as goal

-- those of the first sites, and room for all
abbrev pub invariant-loop-site : goal.invariant-loop-site
invariant-loop-site l =
    (l.pumps.items ≡ map (pump_of l.scenario) (range_with_len 0 l.site)) × (vec_capacity l.pumps ≡ l.sites)
