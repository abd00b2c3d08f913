use Rattle.std.proofs.Common.{◌≡◌, map, take, length, All}
use Rattle.serde_json.specs.View.{view}
use Rattle.walter_scenario.specs.Fronts.{IsContainer}
use Rattle.walter_scenario.specs.Parts.{container_spelled}
use Rattle.walter_scenario.proofs.containers.front_of.Given as goal

abbrev pub invariant-loop-value : goal.invariant-loop-value
invariant-loop-value l = record {
  count : length l.front.items ≡ l.value-index;
  spelled : take l.value-index (map view l.values) ≡ map container_spelled l.front.items;
  declared : All IsContainer l.front.items;
}
