use Rattle.walter_checkpoint.proofs.Contents.{one_area, two_areas}
use Rattle.walter_checkpoint.proofs.laws.headers_tell.Goals as goal

pub returns-clause-one : goal.returns-clause-one
returns-clause-one c = one_area

pub returns-clause-two : goal.returns-clause-two
returns-clause-two c = two_areas
