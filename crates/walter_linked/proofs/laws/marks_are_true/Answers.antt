use Rattle.walter_linked.proofs.Whole.{trails_marks}
use Rattle.walter_linked.proofs.laws.marks_are_true.Goals as goal

pub returns : goal.returns
returns c catalog layouts trails whole = trails_marks catalog layouts whole trails
