use Rattle.walter_linked.proofs.Whole.{trails_got}
use Rattle.walter_linked.proofs.laws.holds_own_commits.Goals as goal

pub returns : goal.returns
returns c catalog layouts trails whole = trails_got catalog layouts whole trails
