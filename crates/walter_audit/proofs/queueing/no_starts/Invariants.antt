use Rattle.std.proofs.Common.{◌≡◌, [], All, length}
use Rattle.walter_audit.proofs.queueing.no_starts.Given as goal

abbrev pub invariant-loop-front : goal.invariant-loop-front
invariant-loop-front l = record {
  many : length l.starts.items ≡ l._front;
  none : All (λ list. list.items ≡ []) l.starts.items;
}
