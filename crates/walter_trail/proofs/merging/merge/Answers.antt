use Rattle.std.proofs.Common.{◌≡◌, ◌≤◌, length, rules, arith, ap, ◌∙◌}
use Rattle.std.proofs.lemmas.List.Sorted.{answers_always}
use Rattle.walter_rules.specs.Merges.{named_from, in_order}
use Rattle.walter_trail.proofs.MergeOrder.{stamped, sorted_is}
use Rattle.walter_trail.proofs.NamedEntries.{named_more, named_all}
use Rattle.walter_trail.proofs.merging.merge.Goals as goal

pub loop-site-preserved : goal.loop-site-preserved
loop-site-preserved c =
    named_more (named_from 0 c.args.trails.now) c.loop-site.entries.items c.add_trail.new.entries.items c.args.trails.now c.loop-site.site c.index-trails-site.result
    c.loop-site-test.true c.index-trails-site.is c.loop-site.invariant c.in_ok-add_trail.ensures

pub returns : goal.returns
returns c =
    let past : length c.args.trails.now ≤ c.loop-site.site = omega arith in
    let all = named_all (named_from 0 c.args.trails.now) c.loop-site.entries.items c.args.trails.now c.loop-site.site past c.loop-site.invariant in
    let key = answers_always _ (λ a r. r ≡ stamped a.0.now) _ (λ f a r g called. search rules) in
    sorted_is c.loop-site.entries.items c.sort_by_key.new.self.items (c.in_ok-sort_by_key.ensures.sorted stamped key) (c.in_ok-sort_by_key.ensures.stable stamped key)
    ∙ ap in_order all
