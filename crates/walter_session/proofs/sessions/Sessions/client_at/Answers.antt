use Rattle.std.proofs.Common.{◌∙◌, ap, sym, option_map}
use Rattle.std.specs.Prelude.{slice_get}
use Rattle.std.specs.Option.{option_copied}
use Rattle.walter_session.specs.Sessions.{sessions_of}
use Rattle.walter_session.proofs.Links.{kept_here, none_here, slot_here}
use Rattle.walter_session.proofs.Tables.{seen_at}
use Rattle.walter_session.proofs.sessions.Sessions.client_at.Goals as goal

pub returns-in_default : goal.returns-in_default
returns-in_default c =
    let none = none_here c.self.inside.slots c.self.inside.keys.entries c.args.place c.self.invariant.each (sym c.in_default.ensures.entry) in
    sym (ap (option_map (λ s. (s.0, s.1.tid))) (ap (λ table. slice_get (sessions_of table) c.args.place) (sym c.self.view_is) ∙ seen_at _ c.args.place _ none))

pub returns-in_err-slot : goal.returns-in_err-slot
returns-in_err-slot c =
    absurd (slot_here c.self.inside.slots c.self.inside.keys.entries c.args.place (c.in-Some.client.now, c.in-Some.key.now) c.self.invariant.each (sym c.in-Some.ensures.entry)
    (sym c.get.ensures ∙ ap option_copied c.in_err-slot.was))

pub returns : goal.returns
returns c =
    let here = kept_here c.self.inside.slots c.self.inside.keys.entries c.args.place (c.in-Some.client.now, c.in-Some.key.now) c.in_ok-slot.slot.now c.self.invariant.each (sym c.in-Some.ensures.entry) (sym c.in_ok-slot.ensures) in
    sym (ap (option_map (λ s. (s.0, s.1.tid))) (ap (λ table. slice_get (sessions_of table) c.args.place) (sym c.self.view_is) ∙ seen_at _ c.args.place _ here))
