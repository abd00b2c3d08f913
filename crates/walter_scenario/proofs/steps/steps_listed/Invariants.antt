use Rattle.std.proofs.Common.{map, take}
use Rattle.serde_json.specs.View.{view}
use Rattle.walter_scenario.specs.Parts.{AreSteps}
use Rattle.walter_scenario.proofs.steps.steps_listed.Given as goal

abbrev pub invariant-loop-index : goal.invariant-loop-index
invariant-loop-index l = AreSteps l.sites l.clients (take l.index (map view l.values)) l.steps.items
