use Rattle.std.proofs.Common.{◌∙◌, ap, sym, option_map}
use Rattle.std.specs.Option.{option_copied}
use Rattle.walter_session.specs.Sessions.{SessionWithRoom, session_of, kept_in}
use Rattle.walter_session.proofs.Links.{kept_at, never_vacant, session_found}
use Rattle.walter_session.proofs.sessions.Sessions.get.Goals as goal

pub returns-in_default : goal.returns-in_default
returns-in_default c =
    let none = session_found c.self.inside.slots c.self.inside.keys.entries c.args.client c.self.invariant.each
    ∙ ap (λ key. option_map (λ (k : SessionWithRoom). k.session) (kept_at c.self.inside.slots key)) (sym c.get.ensures.value ∙ sym c.copied.ensures ∙ c.in_default.is) in
    sym none ∙ ap (λ table. session_of table c.args.client) c.self.view_is

pub returns-in_err-slot : goal.returns-in_err-slot
returns-in_err-slot c =
    let at = sym c.get.ensures.value ∙ sym c.copied.ensures ∙ c.in-Some.is in
    absurd (never_vacant c.self.inside.slots c.self.inside.keys.entries c.args.client c.in-Some.key c.self.invariant.each at (sym c.get-2.ensures ∙ ap option_copied c.in_err-slot.was))

pub returns : goal.returns
returns c =
    let at = sym c.get.ensures.value ∙ sym c.copied.ensures ∙ c.in-Some.is in
    let here = session_found c.self.inside.slots c.self.inside.keys.entries c.args.client c.self.invariant.each
    ∙ ap (λ key. option_map (λ (k : SessionWithRoom). k.session) (kept_at c.self.inside.slots key)) at
    ∙ ap (λ slot. option_map (λ (k : SessionWithRoom). k.session) (option_map kept_in slot)) (sym c.in_ok-slot.ensures) in
    sym here ∙ ap (λ table. session_of table c.args.client) c.self.view_is
