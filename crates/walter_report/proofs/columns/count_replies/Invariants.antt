use Rattle.std.proofs.Common.{◌≡◌, ◌≤◌, ◌*◌, ◌^◌, All, take}
use Rattle.walter_report.specs.Summaries.{all_replies, in_columns}
use Rattle.walter_report.proofs.columns.count_replies.Given as goal

abbrev pub invariant-loop-trail : goal.invariant-loop-trail
invariant-loop-trail l = record {
  counts : l.counts ≡ in_columns (all_replies (take l.trail-index l.trails));
  most : All (λ n. n ≤ l.trail-index * 2 ^ 63) l.counts;
}
