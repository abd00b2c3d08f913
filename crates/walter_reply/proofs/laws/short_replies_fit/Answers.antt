use Rattle.walter_reply.proofs.Lengths.{short_fits}
use Rattle.walter_reply.proofs.laws.short_replies_fit.Goals as goal

pub returns : goal.returns
returns c = short_fits
