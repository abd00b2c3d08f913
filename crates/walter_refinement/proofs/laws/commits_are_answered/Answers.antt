use Rattle.walter_refinement.proofs.CommitsAnswered.{trails_answered}
use Rattle.walter_refinement.proofs.laws.commits_are_answered.Goals as goal

pub returns : goal.returns
returns c catalog layouts trails are = trails_answered catalog layouts trails are
