use Rattle.std.proofs.Common.{◌≡◌, ◌≤◌, ◌+◌, ◌++◌, ◌∷◌, [], All, List, ap, sym, subst, ◌∙◌, rules}
use Rattle.std.proofs.lemmas.List.Elements.{All-append, All-cons, All-nil}
use Rattle.walter_request.specs.Requests.{FitsFrame}
use Rattle.walter_make.specs.declared.draws.ClientCall.{ClientCall}
use Rattle.walter_make.specs.Calls.{Drawing, drawing_of, call_of, behind_call, calls_from}
use Rattle.walter_make.proofs.Drawings.{behind_calls-more, calls_from-more, counts_few}
use Rattle.walter_make.proofs.calls.draw_calls.Goals as goal

pub loop-call-preserved : goal.loop-call-preserved
loop-call-preserved c =
    let first = drawing_of c.args.number in
    let k = c.loop-call._call in
    let call = c.in_ok-next_call.field-0 in
    let before = c.loop-call.invariant in
    let items : c.push.new.self.items ≡ c.loop-call.client_calls.items ++ call ∷ [] = search rules in
    let behind : c.next_call.new.self ≡ behind_call c.loop-call.draws = search rules in
    let fits = λ (calls : List ClientCall). All (λ (x : ClientCall). FitsFrame x.request) calls in
    record {
      drawing = behind ∙ ap behind_call before.drawing ∙ sym (behind_calls-more k first);
      calls = items ∙ ap (λ calls. calls ++ call ∷ []) before.calls
          ∙ ap (λ x. calls_from k first ++ x ∷ []) (c.in_ok-next_call.ensures.call ∙ ap call_of before.drawing)
          ∙ sym (calls_from-more k first);
      fit = subst fits (sym items)
          (All-append (λ (x : ClientCall). FitsFrame x.request) c.loop-call.client_calls.items (call ∷ []) before.fit
          (All-cons (λ (x : ClientCall). FitsFrame x.request) call [] c.in_ok-next_call.ensures.fits
          (All-nil (λ (x : ClientCall). FitsFrame x.request))));
      few = subst (λ (d : Drawing). All (λ n. n ≤ k + 1) d.counts) (sym behind)
          (counts_few k c.loop-call.draws before.few);
    }
