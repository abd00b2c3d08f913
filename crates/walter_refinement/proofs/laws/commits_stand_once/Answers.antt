use Rattle.walter_refinement.proofs.Trails.{trails_once}
use Rattle.walter_refinement.proofs.laws.commits_stand_once.Goals as goal

pub returns : goal.returns
returns c catalog layouts trails whole = trails_once catalog layouts whole trails
