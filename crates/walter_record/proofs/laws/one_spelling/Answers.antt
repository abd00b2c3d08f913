use Rattle.walter_record.proofs.Records.{same_record}
use Rattle.walter_record.proofs.laws.one_spelling.Goals as goal

pub returns : goal.returns
returns c = same_record
