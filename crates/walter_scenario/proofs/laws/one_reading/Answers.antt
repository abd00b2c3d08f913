use Rattle.walter_scenario.proofs.Stages.{read_nowhere_refused, one_refused}
use Rattle.walter_scenario.proofs.Uniqueness.{one_scenario}
use Rattle.walter_scenario.proofs.laws.one_reading.Goals as goal

pub returns-clause-same : goal.returns-clause-same
returns-clause-same c = one_scenario

pub returns-clause-refused : goal.returns-clause-refused
returns-clause-refused c = read_nowhere_refused

pub returns-clause-first : goal.returns-clause-first
returns-clause-first c = one_refused
