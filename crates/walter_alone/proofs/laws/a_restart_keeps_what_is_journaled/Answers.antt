use Rattle.walter_alone.proofs.TrailJournaled.{right_journaled}
use Rattle.walter_alone.proofs.laws.a_restart_keeps_what_is_journaled.Goals as goal

pub returns : goal.returns
returns c = record { records = right_journaled }
