use Rattle.std.proofs.Common.{◌≡◌, ◌≢◌, ◌<◌, ℕ}
use Rattle.walter_cluster.specs.Meetings.{Begins}
use Rattle.walter_cluster.proofs.closing.compare_with_all.Given as goal

abbrev pub invariant-loop-from : goal.invariant-loop-from
invariant-loop-from g l = record {
  same : l.cells ≡ l.initial.cells;
  begins : (j : ℕ) → j < l.from → l.to ≢ j → Begins l.initial.cells l.to j;
}
