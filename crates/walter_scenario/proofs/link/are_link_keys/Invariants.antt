use Rattle.std.proofs.Common.{◌↔◌}
use Rattle.serde_json.specs.View.{members_view}
use Rattle.walter_scenario.specs.Parts.{AreLinkKeys}
use Rattle.walter_scenario.proofs.link.are_link_keys.Given as goal

abbrev pub invariant-loop-name : goal.invariant-loop-name
invariant-loop-name l = AreLinkKeys (members_view l.fn.members.entries) ↔ AreLinkKeys (members_view l.name-iterator)
