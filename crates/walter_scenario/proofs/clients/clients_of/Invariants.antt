use Rattle.std.proofs.Common.{map, take}
use Rattle.serde_json.specs.View.{view}
use Rattle.walter_scenario.specs.Parts.{AreClients}
use Rattle.walter_scenario.proofs.clients.clients_of.Given as goal

abbrev pub invariant-loop-index : goal.invariant-loop-index
invariant-loop-index l = AreClients l.sites (take l.index (map view l.values)) l.clients.items
