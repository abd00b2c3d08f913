use Rattle.std.proofs.lemmas.Result.{err_from_is_err_and}
use Rattle.walter_scenario.proofs.Faulted.{fault_of_arms, fault_of_steps}
use Rattle.walter_scenario.proofs.reading.scenario_on.Goals as goal

pub returns-in_err-settings-clause-fault : goal.returns-in_err-settings-clause-fault
returns-in_err-settings-clause-fault c =
    let fault = err_from_is_err_and c.from_residual.result c.from_residual.ensures.1 in
    rw (fault.1, fault.2) (c.in_err-settings.ensures.fault c.args.grounds)

pub returns-in_err-arms-clause-fault : goal.returns-in_err-arms-clause-fault
returns-in_err-arms-clause-fault c =
    let fault = err_from_is_err_and c.from_residual-in_err-arms.result c.from_residual-in_err-arms.ensures.1 in
    rw (fault.1, fault.2)
    (fault_of_arms c.args.grounds c.args.parts c.in_ok-settings.settings c.in_err-arms.field-0.0
    c.in_ok-settings.ensures.ok c.in_err-arms.ensures.fault)

pub returns-in_err-steps-clause-fault : goal.returns-in_err-steps-clause-fault
returns-in_err-steps-clause-fault c =
    let fault = err_from_is_err_and c.from_residual-in_err-steps.result c.from_residual-in_err-steps.ensures.1 in
    let wrong = rw c.as_slice-clients.ensures at c.in_err-steps.ensures.fault in
    rw (fault.1, fault.2)
    (fault_of_steps c.args.grounds c.args.parts c.in_ok-settings.settings c.in_ok-arms.arms.items
    c.in_err-steps.field-0.0 c.in_ok-settings.ensures.ok c.in_ok-arms.ensures.ok wrong)
