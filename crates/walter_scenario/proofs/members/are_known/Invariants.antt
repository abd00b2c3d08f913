use Rattle.std.proofs.Common.{◌↔◌}
use Rattle.serde_json.specs.View.{members_view}
use Rattle.walter_scenario.specs.Scenarios.{AreKnown}
use Rattle.walter_scenario.proofs.members.are_known.Given as goal

abbrev pub invariant-loop-name : goal.invariant-loop-name
invariant-loop-name l = AreKnown (members_view l.fn.members.entries) ↔ AreKnown (members_view l.name-iterator)
