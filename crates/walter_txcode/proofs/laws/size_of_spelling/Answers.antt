use Rattle.walter_txcode.proofs.Lengths.{length-spelling}
use Rattle.walter_txcode.proofs.laws.size_of_spelling.Goals as goal

pub returns : goal.returns
returns c = length-spelling
