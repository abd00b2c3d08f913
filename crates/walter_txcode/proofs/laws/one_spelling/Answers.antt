use Rattle.walter_txcode.proofs.Prefixes.{same_spelling}
use Rattle.walter_txcode.proofs.laws.one_spelling.Goals as goal

pub returns : goal.returns
returns c = same_spelling
