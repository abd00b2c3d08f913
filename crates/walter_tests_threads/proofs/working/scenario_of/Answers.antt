use Rattle.walter_cli.proofs.Wholes.{reading_playable}
use Rattle.walter_tests_threads.proofs.working.scenario_of.Goals as goal

pub returns : goal.returns
returns c = reading_playable c.in_ok-to_vec.field-0.items c.in-Ok.scenario c.in-Ok.ensures.ok
