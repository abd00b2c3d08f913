use Rattle.std.proofs.Common.{◌≡◌, map, arith}
use Rattle.std.proofs.lemmas.List.{length-map}
use Rattle.std.proofs.lemmas.Option.{MatchOption-at_none, MatchOption-at_some}
use Rattle.std.proofs.lemmas.Result.{err_from_is_err_and}
use Rattle.serde_json.specs.View.{view}
use Rattle.walter_scenario.specs.declared.place.Place.TheVariants.{Clients}
use Rattle.walter_scenario.specs.declared.scenario.Client.{Client}
use Rattle.walter_scenario.specs.Fronts.{MayFollow}
use Rattle.walter_scenario.specs.Parts.{SpellsClient}
use Rattle.walter_scenario.proofs.Sent.{client_more, client_wrong}
use Rattle.walter_scenario.proofs.Spelling.{seen_at}
use Rattle.walter_scenario.proofs.clients.clients_of.Goals as goal

pub returns-in_err-ok_or-clause-fault : goal.returns-in_err-ok_or-clause-fault
returns-in_err-ok_or-clause-fault c =
    let spelled = MatchOption-at_some _ _ _ c.in_ok-values.ensures.ok_part c.items_of.ensures.some in
    let values = c.in_ok-values.values.now in
    let i = c.loop-index.index in
    let clients = c.loop-index.clients.items in
    let none =
    MatchOption-at_none _ _ c.in_err-ok_or.ensures.ok_part (rw c.deref.ensures.value at c.in_ok-client.ensures) in
    let at =
    seen_at (λ d. (client : Client) → MayFollow c.args.sites clients client → ¬ SpellsClient d client) values i
    c.index-values-index.result c.loop-index-test.true c.index-values-index.is none in
    let wrong =
    client_wrong c.args.sites (view c.args.value.now) (map view values) i clients spelled
    (omega (arith, length-map values view)) c.loop-index.invariant at in
    let fault = err_from_is_err_and c.from_residual-in_err-ok_or.result c.from_residual-in_err-ok_or.ensures.1 in
    let named : c.in_err-ok_or.field-0.0 ≡ Clients i = grind arith in
    rw (fault.1, fault.2, named) wrong

pub loop-index-preserved : goal.loop-index-preserved
loop-index-preserved c =
    let values = c.in_ok-values.values.now in
    let i = c.loop-index.index in
    let client = c.in_ok-ok_or.field-0 in
    let found =
    MatchOption-at_some _ _ _ c.in_ok-ok_or.ensures.ok_part (rw c.deref.ensures.value at c.in_ok-client.ensures) in
    let at =
    seen_at (λ d. SpellsClient d client) values i c.index-values-index.result c.loop-index-test.true
    c.index-values-index.is found.1 in
    rw c.in_ok-push.ensures.items
    (client_more c.args.sites (map view values) i c.loop-index.clients.items client
    (omega (arith, length-map values view)) c.loop-index.invariant found.0 at)
