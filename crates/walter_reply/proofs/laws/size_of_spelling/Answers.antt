use Rattle.walter_reply.proofs.Lengths.{length-reply_spelled}
use Rattle.walter_reply.proofs.laws.size_of_spelling.Goals as goal

pub returns : goal.returns
returns c = length-reply_spelled
