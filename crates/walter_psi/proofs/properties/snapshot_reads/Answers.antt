-- Property 1 of every legal history, from ReadFacts.
use Rattle.walter_psi.proofs.ReadFacts.{reads_snapshot}
use Rattle.walter_psi.proofs.properties.snapshot_reads.Goals as goal

pub returns : goal.returns
returns c = reads_snapshot
