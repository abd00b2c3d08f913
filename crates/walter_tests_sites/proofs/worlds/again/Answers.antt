use Rattle.walter_cli.proofs.Wholes.{reading_playable}
use Rattle.walter_tests_sites.proofs.worlds.again.Goals as goal

pub new-requires-clause-whole : goal.new-requires-clause-whole
new-requires-clause-whole c =
    let taken = c.in-Ok.ensures.ok in
    (reading_playable c.in_ok-to_vec.field-0.items c.in-Ok.scenario taken).whole
