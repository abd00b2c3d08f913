use Rattle.walter_audit.proofs.Settled.{none_stands}
use Rattle.walter_audit.proofs.laws.journals_of_runs_are_clear.Goals as goal

pub returns : goal.returns
returns c catalog layouts trails contents whole left = none_stands catalog layouts whole trails contents left
