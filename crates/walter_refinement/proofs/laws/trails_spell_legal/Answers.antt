use Rattle.walter_refinement.proofs.Trails.{trails_legal}
use Rattle.walter_refinement.proofs.laws.trails_spell_legal.Goals as goal

pub returns : goal.returns
returns c catalog layouts trails whole = trails_legal catalog layouts whole trails
