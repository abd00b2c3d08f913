use Rattle.std.proofs.Common.{◌≡◌, ◌<◌, ◌+◌, ◌^◌, List, length, take, subst, arith, rules}
use Rattle.std.proofs.lemmas.List.{take_all}
use Rattle.walter_rules.specs.declared.entry.Entry.{Entry}
use Rattle.walter_report.specs.Summaries.{call_reply, call_replies, CountMore}
use Rattle.walter_report.proofs.Columned.{CountMore-then}
use Rattle.walter_report.proofs.Tallied.{flat_map-take_more}
use Rattle.walter_report.proofs.columns.count_trail.Goals as goal

pub count_entry-requires-clause-room : goal.count_entry-requires-clause-room
count_entry-requires-clause-room c =
    let within : c.loop-entry.entry-index < length c.args.trail.now = search rules in
    let few = c.loop-entry.invariant.most (2 ^ 127) (λ i d w. omega (arith, c.requires.room i d w)) in
    λ i d w. omega (arith, few i d w, within)

pub loop-entry-preserved : goal.loop-entry-preserved
loop-entry-preserved c =
    let trail = c.args.trail.now in
    let k = c.loop-entry.entry-index in
    let e = c.entry-item.result in
    let within : k < length trail = search rules in
    let reply = λ (entry : Entry). call_reply entry.event entry.came.outcome in
    record {
      columns = search rules;
      counts = CountMore-then c.args.counts.now c.loop-entry.counts c.count_entry.new.counts
          (call_replies (take k trail)) (reply e) (call_replies (take (k + 1) trail))
          (flat_map-take_more reply trail k e e within c.entry-item.is)
          c.loop-entry.invariant.counts c.count_entry.ensures.counts;
      most = λ most all i d w.
          omega (arith, c.count_entry.ensures.most (most + k) (c.loop-entry.invariant.most most all) i d w);
    }

pub returns-clause-counts : goal.returns-clause-counts
returns-clause-counts c =
    let trail = c.args.trail.now in
    let k = c.loop-entry.entry-index in
    let past : length trail ≡ k = search rules in
    subst (λ (es : List Entry). CountMore c.args.counts.now c.loop-entry.counts (call_replies es))
    (take_all k trail (omega (arith, past))) c.loop-entry.invariant.counts

pub returns-clause-most : goal.returns-clause-most
returns-clause-most c =
    let past : length c.args.trail.now ≡ c.loop-entry.entry-index = search rules in
    λ most all i d w. omega (arith, past, c.loop-entry.invariant.most most all i d w)
