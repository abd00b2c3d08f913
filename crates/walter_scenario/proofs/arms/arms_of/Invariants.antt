use Rattle.std.proofs.Common.{map, take}
use Rattle.serde_json.specs.View.{view}
use Rattle.walter_scenario.specs.Parts.{AreArms}
use Rattle.walter_scenario.proofs.arms.arms_of.Given as goal

abbrev pub invariant-loop-index : goal.invariant-loop-index
invariant-loop-index l = AreArms l.sites (take l.index (map view l.values)) l.arms.items
