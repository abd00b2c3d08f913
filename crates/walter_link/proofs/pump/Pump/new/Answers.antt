use Rattle.std.proofs.Common.{◌≡◌, ◌++◌, ◌∷◌, [], length, map, ap, sym, ◌∙◌, arith}
use Rattle.std.proofs.lemmas.List.FromFn.{length-map-range_with_len, map-range_with_len_more}
use Rattle.std.specs.List.{range_with_len}
use Rattle.walter_link.specs.Pumps.{new_sender}
use Rattle.walter_link.proofs.pump.Pump.new.Goals as goal

pub push_reserved-requires : goal.push_reserved-requires
push_reserved-requires c =
    let from = c.loop-from.from in
    omega (arith, ap length c.loop-from.invariant.0, length-map-range_with_len (new_sender c.args.link c.args.site) 0 from, c.loop-from.invariant.1, c.loop-from-test.true, c.loop-from.senders.ok.0)

pub loop-from-preserved : goal.loop-from-preserved
loop-from-preserved c =
    let from = c.loop-from.from in
    let one : record { chooser = c.new.result; taken = 0 } ≡ new_sender c.args.link c.args.site from = ap (λ g. record { chooser = g; taken = 0 }) c.new.ensures in (
      c.push_reserved.ensures.items
          ∙ (ap (λ ss. ss ++ record { chooser = c.new.result; taken = 0 } ∷ []) c.loop-from.invariant.0
          ∙ (ap (λ s. map (new_sender c.args.link c.args.site) (range_with_len 0 from) ++ s ∷ []) one
          ∙ sym (map-range_with_len_more (new_sender c.args.link c.args.site) 0 from from (omega arith)))),
      c.push_reserved.ensures.capacity ∙ c.loop-from.invariant.1,
    )
