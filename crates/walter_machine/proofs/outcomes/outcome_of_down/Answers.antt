use Rattle.std.proofs.Common.{◌≡◌, ◌∙◌, Bool, ap, sym, subst}
use Rattle.walter_rules.specs.declared.event.Event.{Event}
use Rattle.walter_rules.specs.declared.outcome.Outcome.TheVariants.{Down}
use Rattle.walter_rules.specs.Rule.{rule, rule_where, stop_rule}
use Rattle.walter_machine.proofs.outcomes.outcome_of_down.Goals as goal

pub returns-in-Given : goal.returns-in-Given
returns-in-Given c = λ header catalog i S down.
    subst (λ (e : Event). c.outcome_at_rest.result ≡ (rule header catalog i S e).outcome) (sym c.in-Given.is)
    (c.outcome_at_rest.ensures ∙ sym (ap (λ (up : Bool). (rule_where up header catalog i S c.in-Given.input).outcome) down))

pub returns-in-Stop : goal.returns-in-Stop
returns-in-Stop c = λ header catalog i S down.
    subst (λ (e : Event). Down ≡ (rule header catalog i S e).outcome) (sym c.in-Stop.is)
    (sym (ap (λ (up : Bool). (stop_rule up).outcome) down))
