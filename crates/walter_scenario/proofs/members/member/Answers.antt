use Rattle.std.proofs.Common.{option_map, sym, ap, ◌∙◌}
use Rattle.serde_json.specs.View.{view}
use Rattle.serde_json.proofs.Views.{view_of_ref, view-lookup}
use Rattle.walter_scenario.proofs.members.member.Goals as goal

pub returns : goal.returns
returns c =
    sym (view_of_ref c.get.result ∙ ap (option_map view) c.get.ensures.value
    ∙ view-lookup c.args.key.now c.args.members.now.entries)
