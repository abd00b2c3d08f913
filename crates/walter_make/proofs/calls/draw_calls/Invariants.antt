use Rattle.std.proofs.Common.{◌≡◌, ◌≤◌, All}
use Rattle.walter_request.specs.Requests.{FitsFrame}
use Rattle.walter_make.specs.Calls.{drawing_of, calls_from}
use Rattle.walter_make.proofs.Drawings.{behind_calls}
use Rattle.walter_make.proofs.calls.draw_calls.Given as goal

abbrev pub invariant-loop-call : goal.invariant-loop-call
invariant-loop-call l = record {
  drawing : l.draws ≡ behind_calls l._call (drawing_of l.number);
  calls : l.client_calls.items ≡ calls_from l._call (drawing_of l.number);
  fit : All (λ call. FitsFrame call.request) l.client_calls.items;
  few : All (λ n. n ≤ l._call) l.draws.counts;
}
