use Rattle.std.proofs.Common.{◌≡◌, ◌<◌, ◌++◌, ◌*◌, ◌^◌, List, length, take, sym, ap, ◌∙◌, arith, rules}
use Rattle.std.proofs.lemmas.List.{take_all}
use Rattle.walter_rules.specs.declared.entry.Entry.{Entry}
use Rattle.walter_report.specs.Summaries.{call_replies, all_replies, in_columns}
use Rattle.walter_report.proofs.Tallied.{flat_map-take_more}
use Rattle.walter_report.proofs.columns.count_replies.Goals as goal

pub loop-trail-preserved : goal.loop-trail-preserved
loop-trail-preserved c =
    let trails = c.args.trails.now in
    let k = c.loop-trail.trail-index in
    let trail = c.trail-item.result in
    let within : k < length trails = search rules in
    let here = c.as_slice.ensures in
    record {
      counts = c.count_trail.ensures.counts (all_replies (take k trails)) c.loop-trail.invariant.counts
          ∙ ap (λ es. in_columns (all_replies (take k trails) ++ call_replies es)) here
          ∙ ap in_columns (sym (flat_map-take_more call_replies trails k trail trail within c.trail-item.is));
      most = λ i d w.
          omega (arith, c.count_trail.ensures.most (k * 2 ^ 63) c.loop-trail.invariant.most i d w);
    }

pub returns : goal.returns
returns c =
    let trails = c.args.trails.now in
    let k = c.loop-trail.trail-index in
    let past : length trails ≡ k = search rules in
    c.loop-trail.invariant.counts
    ∙ ap (λ (ts : List (List Entry)). in_columns (all_replies ts)) (take_all k trails (omega (arith, past)))
