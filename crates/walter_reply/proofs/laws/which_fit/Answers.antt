use Rattle.walter_reply.proofs.Lengths.{which_fit}
use Rattle.walter_reply.proofs.laws.which_fit.Goals as goal

pub returns : goal.returns
returns c = which_fit
