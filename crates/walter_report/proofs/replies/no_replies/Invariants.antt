use Rattle.std.proofs.Common.{◌≡◌, [], All, length}
use Rattle.walter_report.proofs.replies.no_replies.Given as goal

abbrev pub invariant-loop-client : goal.invariant-loop-client
invariant-loop-client l = record {
  clients : length l.answered.items ≡ l._client;
  none : All (λ replies. replies ≡ []) l.answered.items;
}
