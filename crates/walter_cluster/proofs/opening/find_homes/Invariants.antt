use Rattle.std.proofs.Common.{◌≡◌, map, take}
use Rattle.walter_scenario.specs.declared.scenario.Client.{Client}
use Rattle.walter_cluster.proofs.opening.find_homes.Given as goal

abbrev pub invariant-loop-client : goal.invariant-loop-client
invariant-loop-client l = l.homes.items ≡ map (λ (client : Client). client.site) (take l.client-index l.clients)
