use Rattle.std.proofs.Common.{◌≡◌, map, arith}
use Rattle.std.proofs.lemmas.List.{length-map}
use Rattle.std.proofs.lemmas.List.{length_push}
use Rattle.std.proofs.lemmas.List.Elements.{All-push}
use Rattle.serde_json.specs.View.{view}
use Rattle.walter_scenario.specs.Fronts.{IsContainer}
use Rattle.walter_scenario.specs.Parts.{container_spelled}
use Rattle.walter_scenario.proofs.Spelling.{seen_at, one_more}
use Rattle.walter_scenario.proofs.containers.front_of.Goals as goal

pub loop-value-preserved : goal.loop-value-preserved
loop-value-preserved c =
    let values = c.args.values.now in
    let i = c.loop-value.value-index in
    let front = c.loop-value.front.items in
    let container = c.in-Some.container in
    let kept = c.loop-value.invariant in
    let at =
    seen_at (λ d. d ≡ container_spelled container) values i c.value-item.result c.loop-value-test.true c.value-item.is
    c.in-Some.ensures.some.1 in
    rw c.in_ok-push-in-Some.ensures.items
    (record {
      count = omega (arith, kept.count, length_push front container);
      spelled = one_more container_spelled (map view values) i front container
          (omega (arith, length-map values view)) kept.spelled at;
      declared = All-push IsContainer front container kept.declared c.in-Some.ensures.some.0;
    })
