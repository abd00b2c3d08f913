use Rattle.walter_base.proofs.Counted.{counts_of_are, counts_are_one}
use Rattle.walter_base.proofs.laws.counts_are_one_list.Goals as goal

pub returns : goal.returns
returns c = record { are = counts_of_are; one = counts_are_one }
