-- The rules as definitions give what the rules as a relation allow.
use Rattle.walter_rules.proofs.RulesAllowed.{rule_allowed}
use Rattle.walter_rules.proofs.laws.rules_are_allowed.Goals as goal

pub returns-clause-allowed : goal.returns-clause-allowed
returns-clause-allowed c = λ header catalog i S event. (rule_allowed header catalog i S event).0

pub returns-clause-order : goal.returns-clause-order
returns-clause-order c = λ header catalog i S event. (rule_allowed header catalog i S event).1
