use Rattle.std.proofs.Common.{◌≡◌, ◌++◌, ◌∷◌, [], length, map, ap, sym, ◌∙◌, arith}
use Rattle.std.proofs.lemmas.List.FromFn.{length-map-range_with_len, map-range_with_len_more}
use Rattle.std.specs.List.{range_with_len}
use Rattle.walter_cluster.proofs.Pumps.{new_pumps_are, pump_of}
use Rattle.walter_cluster.proofs.pumping.make_pumps.Goals as goal

pub push_reserved-requires : goal.push_reserved-requires
push_reserved-requires c =
    let site = c.loop-site.site in
    omega (arith, ap length c.loop-site.invariant.0, length-map-range_with_len (pump_of c.args.scenario.now) 0 site, c.loop-site.invariant.1, c.loop-site-test.true, c.loop-site.pumps.ok.0)

pub loop-site-preserved : goal.loop-site-preserved
loop-site-preserved c =
    let t = c.args.scenario.now in
    let site = c.loop-site.site in (
      c.push_reserved.ensures.items
          ∙ (ap (λ ps. ps ++ c.in_ok-new.field-0 ∷ []) c.loop-site.invariant.0
          ∙ (ap (λ p. map (pump_of t) (range_with_len 0 site) ++ p ∷ []) c.in_ok-new.ensures
          ∙ sym (map-range_with_len_more (pump_of t) 0 site site (omega arith)))),
      c.push_reserved.ensures.capacity ∙ c.loop-site.invariant.1,
    )

pub returns : goal.returns
returns c =
    let t = c.args.scenario.now in
    let all : c.loop-site.site ≡ t.catalog.sites = omega (arith, c.loop-site-test.false, c.loop-site.auto) in
    c.loop-site.invariant.0 ∙ (ap (λ n. map (pump_of t) (range_with_len 0 n)) all ∙ sym (new_pumps_are t))
