use Rattle.walter_runs.proofs.Running.{merged_run}
use Rattle.walter_runs.proofs.laws.merges_are_runs.Goals as goal

pub returns : goal.returns
returns c = merged_run
