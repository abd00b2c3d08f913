use Rattle.walter_examples.proofs.CausalRun.{causal_right, causal_told}
use Rattle.walter_examples.proofs.DecisionRun.{decision_right, decision_told}
use Rattle.walter_examples.proofs.LockedRun.{locked_right, locked_told}
use Rattle.walter_examples.proofs.laws.examples_spell.Goals as goal

pub returns-clause-causal_right : goal.returns-clause-causal_right
returns-clause-causal_right c = causal_right

pub returns-clause-causal_history : goal.returns-clause-causal_history
returns-clause-causal_history c = causal_told

pub returns-clause-decision_right : goal.returns-clause-decision_right
returns-clause-decision_right c = decision_right

pub returns-clause-decision_history : goal.returns-clause-decision_history
returns-clause-decision_history c = decision_told

pub returns-clause-locked_right : goal.returns-clause-locked_right
returns-clause-locked_right c = locked_right

pub returns-clause-locked_history : goal.returns-clause-locked_history
returns-clause-locked_history c = locked_told
