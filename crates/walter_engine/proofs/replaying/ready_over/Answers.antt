use Rattle.std.proofs.Common.{rules, map, ap, sym, ◌∙◌}
use Rattle.walter_engine.proofs.Raising.{is_ready_over, refused_last}
use Rattle.walter_engine.proofs.replaying.ready_over.Goals as goal
use Rattle.walter_rules.specs.Knowledge.{Knowledge, fresh}
use Rattle.walter_rules.specs.Layouts.{in_force}
use Rattle.walter_rules.specs.Records.{replayed}
use Rattle.walter_tables.specs.Sites.{Stands}

pub boot-requires : goal.boot-requires
boot-requires c =
    let told = c.in-Ok.ensures.told in
    let here : (K : Knowledge) × Stands c.in-Ok.tables K = (replayed c.args.catalog.now c.args.id fresh told.records, told.stands) in
    search rules

pub returns-in-Ok-boot-clause-ready : goal.returns-in-Ok-boot-clause-ready
returns-in-Ok-boot-clause-ready c =
    let boot = c.in-Ok-boot.ensures in
    is_ready_over c.args.header c.args.catalog.now c.args.id (map (λ body. body.items) c.args.bodies.now) c.in-Ok.tables c.in-Ok-boot.ready
    c.in-Ok.ensures.catalog c.in-Ok.ensures.site c.in-Ok.ensures.told boot.anyway boot.ready boot.boots
    (λ last. absurd (let e = sym c.in-Ok-boot.is ∙ c.boot.ensures.takes_none last in cc))
    c.later_of-format.result (c.later_of-format.ensures ∙ ap (in_force c.args.header) c.format.ensures)

pub returns-in-Err-LastEpoch-clause-refused : goal.returns-in-Err-LastEpoch-clause-refused
returns-in-Err-LastEpoch-clause-refused c =
    refused_last c.args.header c.args.catalog.now c.args.id (map (λ body. body.items) c.args.bodies.now) c.in-Ok.tables c.in-Ok.ensures.told
    (c.in-Err-LastEpoch.ensures.last c.in-Err-LastEpoch.field-0-is)
