use Rattle.walter_checkpoint.proofs.Packs.{pack_within}
use Rattle.walter_checkpoint.proofs.laws.packs_are_shorter.Goals as goal

pub returns : goal.returns
returns c = pack_within
