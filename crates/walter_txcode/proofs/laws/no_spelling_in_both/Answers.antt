use Rattle.walter_txcode.proofs.Formats.{no_both}
use Rattle.walter_txcode.proofs.laws.no_spelling_in_both.Goals as goal

pub returns : goal.returns
returns c = no_both
