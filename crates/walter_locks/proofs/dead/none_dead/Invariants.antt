use Rattle.std.proofs.Common.{◌≡◌, [], All, length}
use Rattle.walter_locks.specs.Intervals.{Numbers}
use Rattle.walter_locks.proofs.dead.none_dead.Given as goal

abbrev pub invariant-loop-site : goal.invariant-loop-site
invariant-loop-site l = record {
  sites : length l.dead.items ≡ l._site;
  none : All (λ (numbers : Numbers). numbers.intervals ≡ []) l.dead.items;
}
