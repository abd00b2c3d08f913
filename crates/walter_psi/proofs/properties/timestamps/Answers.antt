-- The timestamps of a legal history, from TimestampFacts.
use Rattle.walter_psi.proofs.TimestampFacts.{legal_timestamps}
use Rattle.walter_psi.proofs.properties.timestamps.Goals as goal

pub returns : goal.returns
returns c = legal_timestamps
