use Rattle.std.proofs.Common.{◌≡◌, take}
use Rattle.std.specs.Prelude.{◌+ℤ◌, ◌-ℤ◌, ◌≤ℤ◌, pos}
use Rattle.walter_history.specs.Steps.{told}
use Rattle.walter_cset.specs.Between.{moved}
use Rattle.walter_cset.proofs.between.count_between.Given as goal

-- moved by the steps so far, by one at most for each
abbrev pub invariant-loop-kept : goal.invariant-loop-kept
invariant-loop-kept l = record {
  moved : l.number ≡ l.count +ℤ moved l.from l.to l.oid l.id (told (take l.kept-index l.steps));
  low : (l.count -ℤ pos l.kept-index) ≤ℤ l.number;
  high : l.number ≤ℤ (l.count +ℤ pos l.kept-index);
}
