use Rattle.std.proofs.Common.{inr}
use Rattle.walter_checkpoint.proofs.Switching.{torn_aside, laid_both, both_two, torn_switch}
use Rattle.walter_checkpoint.proofs.laws.switch_keeps.Goals as goal

pub returns-clause-aside : goal.returns-clause-aside
returns-clause-aside c = torn_aside

pub returns-clause-both : goal.returns-clause-both
returns-clause-both c = laid_both

pub returns-clause-switch : goal.returns-clause-switch
returns-clause-switch c shape bytes image bodies both torn = inr (both_two shape image bodies (torn_switch shape bytes image bodies both torn))
