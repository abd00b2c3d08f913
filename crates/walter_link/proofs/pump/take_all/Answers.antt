use Rattle.std.proofs.Common.{◌≡◌, ◌+◌, ◌-◌, refl, ap, sym, ◌∙◌, arith}
use Rattle.walter_link.specs.declared.pump.Sender.{Sender}
use Rattle.walter_link.specs.Pumps.{behind_one, put_in}
use Rattle.walter_link.proofs.Taking.{one_more}
use Rattle.walter_link.proofs.pump.take_all.Goals as goal

pub loop-number-preserved : goal.loop-number-preserved
loop-number-preserved c =
    let is = c.loop-number.invariant in
    let number = c.loop-number.number in
    let s = c.loop-number.sender in
    let now : Sender = record { chooser = c.choose-choice.new.self; taken = number + 1 } in
    let later : now ≡ behind_one s = cc in
    let one = one_more (c.args.last - (number + 1)) (c.args.last - number) c.args.rates c.args.from s now c.choose-choice.result
    c.loop-number.waiting.items c.put_in.new.waiting.items (omega (arith, c.loop-number-test.true)) later c.choose-choice.ensures.choice
    (c.put_in.ensures.items
    ∙ ap (λ n. put_in c.choose-choice.result (record { from = c.args.from; number = n + 1 }) c.loop-number.waiting.items) (sym is.taken)) in
    record {
      taken = refl;
      room = omega (arith, is.room, c.put_in.ensures.len, c.put_in.ensures.room, c.loop-number-test.true);
      sender = one.0 ∙ is.sender;
      waiting = one.1 ∙ is.waiting;
    }
