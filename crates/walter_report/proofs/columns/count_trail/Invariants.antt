use Rattle.std.proofs.Common.{◌≡◌, ◌≤◌, ◌+◌, ℕ, All, length, take}
use Rattle.walter_report.specs.Summaries.{call_replies, CountMore}
use Rattle.walter_report.proofs.columns.count_trail.Given as goal

abbrev pub invariant-loop-entry : goal.invariant-loop-entry
invariant-loop-entry l = record {
  columns : length l.counts ≡ 10;
  counts : CountMore l.initial.counts l.counts (call_replies (take l.entry-index l.trail));
  most : (most : ℕ) → All (λ n. n ≤ most) l.initial.counts → All (λ n. n ≤ most + l.entry-index) l.counts;
}
