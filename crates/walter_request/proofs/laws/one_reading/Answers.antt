use Rattle.walter_request.proofs.Places.{no_bad_frame, one_place}
use Rattle.walter_request.proofs.Prefixes.{one_request}
use Rattle.walter_request.proofs.laws.one_reading.Goals as goal

pub returns-clause-one : goal.returns-clause-one
returns-clause-one c = one_request

pub returns-clause-apart : goal.returns-clause-apart
returns-clause-apart c = no_bad_frame

pub returns-clause-place : goal.returns-clause-place
returns-clause-place c = one_place
