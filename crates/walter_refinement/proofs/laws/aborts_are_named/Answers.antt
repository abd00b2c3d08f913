use Rattle.walter_refinement.proofs.Trails.{trails_named}
use Rattle.walter_refinement.proofs.laws.aborts_are_named.Goals as goal

pub returns : goal.returns
returns c catalog layouts trails whole = trails_named catalog layouts whole trails
