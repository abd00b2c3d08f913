use Rattle.std.proofs.Common.{◌≡◌, ◌≢◌, ◌⊎◌, ◌<◌, ◌≤◌, ℕ}
use Rattle.walter_cluster.specs.Meetings.{HaveAllMet, HaveStayed, HasArrived, IsAsBefore}
use Rattle.walter_cluster.proofs.meeting.meet_all.Given as goal

abbrev pub invariant-loop-from : goal.invariant-loop-from
invariant-loop-from g l = record {
  stays : HaveStayed l.initial.cells l.cells;
  arrived : (j : ℕ) → j < l.from → j ≢ l.to → HasArrived l.initial.cells l.cells l.to j;
  elsewhere : (i j : ℕ) → (i ≢ l.to) ⊎ ((j ≡ l.to) ⊎ (l.from ≤ j)) → IsAsBefore l.initial.cells l.cells i j;
  met : HaveAllMet l.initial.cells → HaveAllMet l.cells;
}
