use Rattle.std.proofs.Common.{◌≡◌, ◌≢◌, map, arith}
use Rattle.std.proofs.lemmas.List.{length-map}
use Rattle.std.proofs.lemmas.Option.{MatchOption-at_none, MatchOption-at_some}
use Rattle.std.proofs.lemmas.Result.{err_from_is_err_and}
use Rattle.serde_json.specs.View.{view}
use Rattle.walter_scenario.specs.declared.place.Place.TheVariants.{Steps}
use Rattle.walter_scenario.specs.declared.scenario.Step.{Step}
use Rattle.walter_scenario.specs.Parts.{step_spelled, IsStep}
use Rattle.walter_scenario.proofs.Scripts.{item_more, item_wrong}
use Rattle.walter_scenario.proofs.Spelling.{seen_at}
use Rattle.walter_scenario.proofs.steps.steps_listed.Goals as goal

pub returns-in_err-ok_or-clause-fault : goal.returns-in_err-ok_or-clause-fault
returns-in_err-ok_or-clause-fault c =
    let values = c.in_ok-values.values.now in
    let i = c.loop-index.index in
    let spelled = MatchOption-at_some _ _ _ c.in_ok-values.ensures.ok_part c.items_of.ensures.some in
    let none = MatchOption-at_none _ _ c.in_err-ok_or.ensures.ok_part c.step_of.ensures.none in
    let at =
    seen_at (λ d. (step : Step) → IsStep c.args.sites c.args.clients step → d ≢ step_spelled step) values i
    c.index-values-index.result c.loop-index-test.true c.index-values-index.is none in
    let wrong =
    item_wrong step_spelled (IsStep c.args.sites c.args.clients) Steps (view c.args.value.now)
    (map view values) i c.loop-index.steps.items spelled
    (omega (arith, length-map values view)) c.loop-index.invariant at in
    let fault = err_from_is_err_and c.from_residual-in_err-ok_or.result c.from_residual-in_err-ok_or.ensures.1 in
    rw (fault.1, fault.2) (let n : c.in_err-ok_or.field-0.0 ≡ Steps i = grind arith in rw n wrong)

pub loop-index-preserved : goal.loop-index-preserved
loop-index-preserved c =
    let values = c.in_ok-values.values.now in
    let i = c.loop-index.index in
    let step = c.in_ok-ok_or.field-0 in
    let found = MatchOption-at_some _ _ _ c.in_ok-ok_or.ensures.ok_part c.step_of.ensures.some in
    let at =
    seen_at (λ d. d ≡ step_spelled step) values i c.index-values-index.result c.loop-index-test.true
    c.index-values-index.is found.1 in
    rw c.in_ok-push.ensures.items
    (item_more step_spelled (IsStep c.args.sites c.args.clients) (map view values) i c.loop-index.steps.items step
    (omega (arith, length-map values view)) c.loop-index.invariant found.0 at)
