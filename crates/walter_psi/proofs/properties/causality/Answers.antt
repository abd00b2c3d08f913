-- Property 3 of every legal history, from CausalFacts.
use Rattle.walter_psi.proofs.CausalFacts.{causal}
use Rattle.walter_psi.proofs.properties.causality.Goals as goal

pub returns : goal.returns
returns c = causal
