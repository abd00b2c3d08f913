use Rattle.std.proofs.Common.{◌≡◌, ◌<◌, ◌-◌, length, set, slice_get, refl, ap, sym, ◌∙◌, subst, Some}
use Rattle.std.proofs.lemmas.Option.{slice_get_read}
use Rattle.walter_link.specs.declared.pump.Sender.{Sender}
use Rattle.walter_link.specs.Pumps.{PumpValue, IsPump, put_all, sender_behind, take_of, take_up_to}
use Rattle.walter_link.proofs.Taking.{pump_taken}
use Rattle.walter_link.proofs.pump.Pump.take.Goals as goal
use Rattle.walter_link.proofs.pump.Pump.take.Goals.{After-self-2-1}

-- what is known behind the taking
module _ (c : After-self-2-1) where
  abbrev p : PumpValue
  p = record {
    site = c.self.inside.site;
    rates = c.self.inside.rates;
    senders = c.self.inside.senders.items;
    waiting = c.self.inside.waiting.items;
    ticks = c.self.inside.ticks;
  }

  abbrev sender : Sender
  sender = c.index_mut-sender.result.now

  at : slice_get p.senders c.args.from.0 ≡ Some sender
  at =
      let within : c.args.from.0 < length p.senders = rw (← c.self.view_is) at c.requires.from in
      ap (slice_get p.senders) (sym c.from.ensures)
      ∙ slice_get_read p.senders (length p.senders) c.from.result sender refl (subst (λ n. n < length p.senders) (sym c.from.ensures) within) c.index_mut-sender.ensures.value

  taken : record p { senders = set p.senders c.from.result c.take_all.new.sender; waiting = c.take_all.new.waiting.items }
      ≡ take_of c.args.from c.args.arrived p (Some sender)
  taken =
      let n = c.args.arrived - sender.taken in
      ap (λ k. record p { senders = set p.senders k c.take_all.new.sender; waiting = c.take_all.new.waiting.items }) c.from.ensures
      ∙ (ap (λ (s : Sender). record p { senders = set p.senders c.args.from.0 s; waiting = c.take_all.new.waiting.items }) c.take_all.ensures.sender
      ∙ ap (λ ws. record p { senders = set p.senders c.args.from.0 (sender_behind n sender); waiting = ws })
      (c.take_all.ensures.waiting ∙ ap (put_all n p.rates c.args.from sender) c.in_ok-reserve.ensures.items))

pub invariant_of-self-2 : goal.invariant_of-self-2
invariant_of-self-2 c =
    let apart = rw (← c.self.view_is) at c.requires.apart in
    subst (λ (v : PumpValue). IsPump v) (sym (taken c)) (pump_taken (p c) c.args.from c.args.arrived (sender c) (at c) apart c.self.invariant)

pub returns-clause-taken : goal.returns-clause-taken
returns-clause-taken c =
    taken c ∙ (ap (take_of c.args.from c.args.arrived (p c)) (sym (at c)) ∙ ap (take_up_to c.args.from c.args.arrived) c.self.view_is)
