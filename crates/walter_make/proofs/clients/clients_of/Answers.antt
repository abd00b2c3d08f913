use Rattle.std.proofs.Common.{◌≡◌, ◌++◌, ◌∷◌, [], ap, sym, ◌∙◌, arith, rules}
use Rattle.std.proofs.lemmas.List.FromFn.{map-range_with_len_more}
use Rattle.walter_make.specs.Made.{made_client}
use Rattle.walter_make.proofs.clients.clients_of.Goals as goal

pub loop-number-preserved : goal.loop-number-preserved
loop-number-preserved c =
    let calls = c.args.calls.now in
    let number = c.loop-number.number in
    let more : c.push.new.self.items ≡ c.loop-number.clients.items ++ made_client calls number ∷ [] = search rules in
    more ∙ ap (λ clients. clients ++ made_client calls number ∷ []) c.loop-number.invariant
    ∙ sym (map-range_with_len_more (made_client calls) 0 number number (omega arith))
