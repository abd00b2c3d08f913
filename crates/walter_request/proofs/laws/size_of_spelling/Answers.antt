use Rattle.walter_request.proofs.Lengths.{length-request_spelled}
use Rattle.walter_request.proofs.laws.size_of_spelling.Goals as goal

pub returns : goal.returns
returns c = length-request_spelled
