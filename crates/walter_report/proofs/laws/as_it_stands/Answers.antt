use Rattle.walter_report.proofs.Stands.{is_up_stands, records_stand}
use Rattle.walter_report.proofs.laws.as_it_stands.Goals as goal

pub returns-clause-up : goal.returns-clause-up
returns-clause-up c = is_up_stands

pub returns-clause-records : goal.returns-clause-records
returns-clause-records c = records_stand
