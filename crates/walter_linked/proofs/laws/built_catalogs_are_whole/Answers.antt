use Rattle.walter_linked.proofs.Catalogs.{right_whole}
use Rattle.walter_linked.proofs.laws.built_catalogs_are_whole.Goals as goal

pub returns : goal.returns
returns c = right_whole
