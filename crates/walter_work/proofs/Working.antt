-- How a site that works goes on.
use Rattle.std.proofs.Common.{◌≡◌, ◌<◌, ◌≤◌, ◌+◌, ◌-◌, nat_le, ℕ, zero, suc, List, [], ◌∷◌, ◌++◌, length, reverse, slice_get, refl, ap, sym, ◌∙◌, subst, arith, Option, Some, None, Bool, true, false, if◌then◌else◌, Result}
use Rattle.std.proofs.lemmas.Bool.{le-leb}
use Rattle.std.proofs.lemmas.List.{reverse-append}
use Rattle.walter_base.specs.declared.message.BadFrame.{BadFrame}
use Rattle.walter_base.specs.declared.message.Request.{Request}
use Rattle.walter_base.specs.declared.names.SiteId.{SiteId}
use Rattle.walter_base.specs.declared.packet.Packet.{Packet}
use Rattle.walter_base.specs.Names.{same_site}
use Rattle.walter_link.specs.declared.pump.Sender.{Sender}
use Rattle.walter_link.specs.declared.pump.Waiting.{Waiting}
use Rattle.walter_link.specs.Choices.{copies}
use Rattle.walter_link.specs.Pumps.{PumpValue, count_in, new_pump, put_all, take_arrived, take_below, take_of, take_other, taken_from}
use Rattle.walter_rules.specs.declared.entry.Entry.{Entry}
use Rattle.walter_rules.specs.declared.event.Event.{Event}
use Rattle.walter_rules.specs.declared.event.Event.TheVariants.{Given, Restart}
use Rattle.walter_rules.specs.declared.event.Input.TheVariants.{Advance, Call, Deliver, Tick}
use Rattle.walter_rules.specs.Deliveries.{IsLeastEnabled}
use Rattle.walter_rules.specs.Standing.{Standing}
use Rattle.walter_rules.specs.Trails.{opening, standing}
use Rattle.walter_scenario.specs.declared.scenario.Scenario.{Scenario}
use Rattle.walter_work.specs.Worked.{HaveCome, IsWorked, MayCome, deliveries_of, is_delivery, is_tick}
use Rattle.walter_work.specs.Working.{IsWorking, waits_of}
use Rattle.walter_work.proofs.Counts.{count_cons, count_push}
use Rattle.walter_work.proofs.Taking.{due_more, new_senders, new_taken, none_due, senders_behind, waits_more}

module _ (told : Type 0) (t : Scenario) (i : SiteId) where
  -- a site has begun, and nothing has come to its pump
  pub first_works : IsWorking told t i (opening ∷ []) (new_pump t.link i t.catalog.sites t.ticks)
  first_works =
      let pump : PumpValue = new_pump t.link i t.catalog.sites t.ticks in
      record {
        events = λ is_told. (tt, refl);
        packets = λ from number.
            let none = none_due t.link.seed t.link.rates i from number (taken_from pump from.0)
            (new_taken t.link i t.catalog.sites t.ticks from.0) in
            omega (arith, none);
        ticks = omega arith;
        rates = refl;
        senders = new_senders t.link i t.catalog.sites t.ticks;
      }

  module _ (trail : List Entry) where
    -- how the site stands by its trail
    abbrev S : Standing
    S = standing t.catalog i (reverse trail)

    -- ---- what is taken

    takes_of : (from : SiteId) (arrived : ℕ) (pump : PumpValue) (o : Option Sender) → slice_get pump.senders from.0 ≡ o
        → IsWorking told t i trail pump → IsWorking told t i trail (take_of from arrived pump o)
    takes_of from arrived pump None at working = working
    takes_of from arrived pump (Some s) at working =
        let n = arrived - s.taken in
        let after : PumpValue = take_of from arrived pump (Some s) in
        record {
          events = working.events;
          packets = λ f m.
              let before = working.packets f m in
              let chosen = ap (λ rates. waits_of f m (put_all n rates from s pump.waiting)) working.rates in
              let more = waits_more t.link i from f m n s pump.waiting (working.senders from.0 s at) in
              let grows = due_more t.link i pump from n s at f m after refl in
              omega (arith, before, chosen, more, grows);
          ticks = working.ticks;
          rates = working.rates;
          senders = senders_behind t.link i pump from n s at working.senders;
        }

    takes_other : (own : Bool) (from : SiteId) (arrived : ℕ) (pump : PumpValue)
        → IsWorking told t i trail pump → IsWorking told t i trail (take_other own from arrived pump)
    takes_other true from arrived pump working = working
    takes_other false from arrived pump working =
        takes_of from arrived pump (slice_get pump.senders from.0) refl working

    -- what has arrived of the first so many sites is taken
    pub takes_below : (n : ℕ) (pump : PumpValue) (arrived : ℕ → ℕ)
        → IsWorking told t i trail pump → IsWorking told t i trail (take_below i arrived n pump)
    takes_below zero pump arrived working = working
    takes_below (suc n) pump arrived working =
        let from : SiteId = record { 0 = n } in
        takes_other (same_site from i) from (arrived n) (take_below i arrived n pump)
        (takes_below n pump arrived working)

    -- what has arrived is taken
    pub takes_on : (pump : PumpValue) (arrived : ℕ → ℕ) → pump.site ≡ i
        → IsWorking told t i trail pump → IsWorking told t i trail (take_arrived i arrived pump)
    takes_on pump arrived site working = takes_below (length pump.senders) pump arrived working

    -- ---- one more entry

    -- its event might come, and the pump goes on
    pub comes_on : (pump after : PumpValue) (e : Entry) → IsWorking told t i trail pump
        → (told → MayCome t.catalog i S e.event)
        → after.rates ≡ pump.rates → after.senders ≡ pump.senders
        → ((from : SiteId) (number : ℕ)
        → (if is_delivery from number e.event then 1 else 0) + waits_of from number after.waiting
        ≡ waits_of from number pump.waiting)
        → (if is_tick e.event then 1 else 0) + after.ticks ≡ pump.ticks
        → IsWorking told t i (trail ++ e ∷ []) after
    comes_on pump after e working may rates senders waits ticks =
        let back : reverse (trail ++ e ∷ []) ≡ e ∷ reverse trail = reverse-append trail (e ∷ []) in
        record {
          events = λ is_told. subst (λ es. HaveCome t.catalog i es) (sym back) (working.events is_told, may is_told);
          packets = λ from number.
              let before = working.packets from number in
              let more = count_push (λ (x : Entry). is_delivery from number x.event) trail e in
              let left = waits from number in
              let same = ap (λ ss. if nat_le number (count_in (slice_get ss from.0))
              then copies t.link.seed t.link.rates i from number else 0) senders in
              omega (arith, before, more, left, same);
          ticks =
              let before = working.ticks in
              let more = count_push (λ (x : Entry). is_tick x.event) trail e in
              omega (arith, before, more, ticks);
          rates = rates ∙ working.rates;
          senders = λ from sender at. working.senders from sender (sym (ap (λ ss. slice_get ss from) senders) ∙ at);
        }

    -- an event that is neither a delivery nor a tick: the pump stays
    stays_on : (pump : PumpValue) (e : Entry) (event : Event) → IsWorking told t i trail pump → e.event ≡ event
        → (told → MayCome t.catalog i S event)
        → ((from : SiteId) (number : ℕ) → is_delivery from number event ≡ false) → is_tick event ≡ false
        → IsWorking told t i (trail ++ e ∷ []) pump
    stays_on pump e event working is may no_delivery no_tick =
        comes_on pump pump e working (λ is_told. subst (MayCome t.catalog i S) (sym is) (may is_told))
        refl refl
        (λ from number.
        let no : is_delivery from number e.event ≡ false = ap (is_delivery from number) is ∙ no_delivery from number in
        let none = ap {B = ℕ} (λ (b : Bool). if b then 1 else 0) no in
        omega (arith, none))
        (let none = ap {B = ℕ} (λ (b : Bool). if b then 1 else 0) (ap is_tick is ∙ no_tick) in omega (arith, none))

    pub call_on : (pump : PumpValue) (e : Entry) (client : ℕ) (call : Result Request BadFrame)
        → IsWorking told t i trail pump → e.event ≡ Given (Call client call) → IsWorking told t i (trail ++ e ∷ []) pump
    call_on pump e client call working is =
        stays_on pump e (Given (Call client call)) working is (λ is_told. tt) (λ from number. refl) refl

    pub restart_on : (pump : PumpValue) (e : Entry) → IsWorking told t i trail pump → e.event ≡ Restart
        → (told → S.up ≡ false) → IsWorking told t i (trail ++ e ∷ []) pump
    restart_on pump e working is down = stays_on pump e Restart working is down (λ from number. refl) refl

    pub advance_on : (pump : PumpValue) (e : Entry) (from : SiteId)
        → IsWorking told t i trail pump → e.event ≡ Given (Advance from)
        → (told → (S.up ≡ true)
        × IsLeastEnabled t.catalog i S.knows (Some from))
        → IsWorking told t i (trail ++ e ∷ []) pump
    advance_on pump e from working is may =
        stays_on pump e (Given (Advance from)) working is may (λ other number. refl) refl

    -- the packet in front is delivered
    pub delivery_on : (pump : PumpValue) (e : Entry) (first : Waiting) (rest : List Waiting) (packet : Packet)
        → IsWorking told t i trail pump → pump.waiting ≡ first ∷ rest
        → e.event ≡ Given (Deliver first.from first.number packet)
        → (told → S.up ≡ true)
        → IsWorking told t i (trail ++ e ∷ []) (record pump { waiting = rest })
    delivery_on pump e first rest packet working front is up =
        comes_on pump (record pump { waiting = rest }) e working
        (λ is_told. subst (MayCome t.catalog i S) (sym is) (up is_told)) refl refl
        (λ from number.
        let one = ap {B = ℕ} (λ (x : Event). if is_delivery from number x then 1 else 0) is in
        let all = ap (waits_of from number) front in
        let p : Waiting → Bool = λ w. is_delivery from number (Given (Deliver w.from w.number packet)) in
        let more = count_cons p first rest in
        omega (arith, one, all, more))
        (let none = ap {B = ℕ} (λ (x : Event). if is_tick x then 1 else 0) is in omega (arith, none))

    pub tick_on : (pump : PumpValue) (e : Entry) → IsWorking told t i trail pump → 0 < pump.ticks → e.event ≡ Given Tick
        → (told → (S.up ≡ true)
        × IsLeastEnabled t.catalog i S.knows None)
        → IsWorking told t i (trail ++ e ∷ []) (record pump { ticks = pump.ticks - 1 })
    tick_on pump e working some is may =
        comes_on pump (record pump { ticks = pump.ticks - 1 }) e working
        (λ is_told. subst (MayCome t.catalog i S) (sym is) (may is_told)) refl refl
        (λ from number.
        let none = ap {B = ℕ} (λ (x : Event). if is_delivery from number x then 1 else 0) is in omega (arith, none))
        (let one = ap {B = ℕ} (λ (x : Event). if is_tick x then 1 else 0) is in omega (arith, one, some))

    -- ---- what that comes to

    pub worked_so : (pump : PumpValue) → IsWorking told t i trail pump → IsWorked told t i trail
    worked_so pump working = record {
      events = working.events;
      packets = λ from number.
          let all = working.packets from number in
          let most = at_most (nat_le number (taken_from pump from.0)) (copies t.link.seed t.link.rates i from number) in
          omega (arith, all, most);
      ticks = (let all = working.ticks in omega (arith, all));
    }
      where
        at_most : (b : Bool) (n : ℕ) → (if b then n else 0) ≤ n
        at_most true n = omega arith
        at_most false n = omega arith

    -- where nothing waits, what was taken was delivered as often as the link copies it
    pub all_delivered : (pump : PumpValue) → IsWorking told t i trail pump → pump.waiting ≡ []
        → (from : SiteId) (number : ℕ) → number ≤ taken_from pump from.0
        → deliveries_of from number trail ≡ copies t.link.seed t.link.rates i from number
    all_delivered pump working empty from number taken =
        let all = working.packets from number in
        let none = ap (waits_of from number) empty in
        let is_due = ap (λ (b : Bool). if b then copies t.link.seed t.link.rates i from number else 0)
        (le-leb number (taken_from pump from.0) taken) in
        omega (arith, all, none, is_due)
