use Rattle.std.proofs.lemmas.Result.{IfOk-weaker, IfErr-weaker}
use Rattle.walter_scenario.specs.Members.{IsReadingOf, IsFaultOf, IsReadingOn, IsFaultOn}
use Rattle.walter_scenario.proofs.reading.scenario_of.Goals as goal

pub returns-clause-ok : goal.returns-clause-ok
returns-clause-ok c =
    let grounds = c.in_ok-grounds.grounds in
    let are = c.in_ok-grounds.ensures.ok in
    IfOk-weaker c.scenario_on.result (IsReadingOn grounds c.args.parts) (IsReadingOf c.args.parts)
    (λ s on bytes ms keys parts. on bytes ms (are bytes ms keys parts) parts) c.scenario_on.ensures.ok

pub returns-clause-fault : goal.returns-clause-fault
returns-clause-fault c =
    let grounds = c.in_ok-grounds.grounds in
    let are = c.in_ok-grounds.ensures.ok in
    IfErr-weaker c.scenario_on.result (IsFaultOn grounds c.args.parts) (IsFaultOf c.args.parts)
    (λ fault on bytes ms keys parts. on bytes ms (are bytes ms keys parts) parts) c.scenario_on.ensures.fault
