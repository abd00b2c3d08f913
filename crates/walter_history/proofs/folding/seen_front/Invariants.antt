use Rattle.std.proofs.Common.{◌≡◌, ◌≤◌, [], take, drop}
use Rattle.walter_history.specs.Folded.{IsFrontSeen}
use Rattle.walter_history.specs.Rows.{seen_updates}
use Rattle.walter_history.proofs.folding.seen_front.Given as goal

-- of the rows so far
abbrev pub invariant-loop-place : goal.invariant-loop-place
invariant-loop-place l = record {
  within : l.front ≤ l.place;
  front : IsFrontSeen l.by l.rows l.front;
  back : seen_updates l.by (drop l.front (take l.place l.rows)) ≡ [];
}
