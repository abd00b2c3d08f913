-- Property 2 of every legal history, from WriterFacts.
use Rattle.walter_psi.proofs.WriterFacts.{no_conflict, writers_ordered}
use Rattle.walter_psi.proofs.properties.no_concurrent_writers.Goals as goal

pub returns-clause-disjoint : goal.returns-clause-disjoint
returns-clause-disjoint c = no_conflict

pub returns-clause-ordered : goal.returns-clause-ordered
returns-clause-ordered c = writers_ordered
