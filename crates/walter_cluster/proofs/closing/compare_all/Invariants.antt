use Rattle.std.proofs.Common.{◌≡◌, ◌≢◌, ◌<◌, ℕ, length}
use Rattle.walter_cluster.specs.Meetings.{Begins}
use Rattle.walter_cluster.proofs.closing.compare_all.Given as goal

abbrev pub invariant-loop-to : goal.invariant-loop-to
invariant-loop-to g l = record {
  same : l.cells ≡ l.initial.cells;
  begins : (to from : ℕ) → to < l.to → from < length l.initial.cells → to ≢ from → Begins l.initial.cells to from;
}
