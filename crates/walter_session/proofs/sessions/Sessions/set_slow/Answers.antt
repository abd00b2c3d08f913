use Rattle.std.proofs.Common.{◌∙◌, is_some, refl, ap, sym, arith}
use Rattle.std.proofs.lemmas.Grind.{common_steps}
use Rattle.slab.specs.Slab.{with_value}
use Rattle.walter_base.proofs.ByClient.{changed-absent}
use Rattle.walter_rules.specs.Sessions.{with_slow}
use Rattle.walter_session.specs.Sessions.{table_in, Table, kept_in, session_of, sessions_of}
use Rattle.walter_session.proofs.Tables.{room_in, moved, seen_of, seen-changed, changed_sets, rooms_same}
use Rattle.walter_session.proofs.Links.{never_vacant, no_session, lent_linked, lent_clients, lent_kept}
use Rattle.walter_session.proofs.sessions.Sessions.set_slow.Goals as goal

pub invariant_of-self-2 : goal.invariant_of-self-2
invariant_of-self-2 c =
    let at = sym c.get.ensures.value ∙ sym c.copied.ensures ∙ c.in-Some.is in
    let here = sym c.in-Some-get_mut.ensures.value in
    lent_linked c.self.inside.slots c.self.inside.keys.entries c.args.client c.in-Some.key c.in-Some-get_mut.slot.now c.set_slow.new.self c.self.invariant at here c.set_slow.ensures.client

pub returns-in_default : goal.returns-in_default
returns-in_default c =
    let none = no_session c.self.inside.slots c.self.inside.keys.entries c.args.client c.self.invariant.each (ap is_some (sym c.get.ensures.value ∙ sym c.copied.ensures ∙ c.in_default.is)) in
    let absent = ap (λ table. session_of table c.args.client) (sym c.self.view_is) ∙ none in
    record {
      slow = sym (changed-absent c.args.client (with_slow c.args.slow) (sessions_of c.args.self.now) absent);
      room = λ other. refl;
      starts = λ can. can;
    }

pub returns-in_default-get_mut : goal.returns-in_default-get_mut
returns-in_default-get_mut c =
    let at = sym c.get.ensures.value ∙ sym c.copied.ensures ∙ c.in-Some.is in
    absurd (never_vacant c.self.inside.slots c.self.inside.keys.entries c.args.client c.in-Some.key c.self.invariant.each at (sym c.in_default-get_mut.ensures.value))

pub returns : goal.returns
returns c =
    let f = with_slow c.args.slow in
    let slots = c.self.inside.slots in
    let entries = c.self.inside.keys.entries in
    let client = c.args.client in
    let key = c.in-Some.key in
    let was = c.in-Some-get_mut.slot.now in
    let now = c.set_slow.new.self in
    let before = c.args.self.now in
    let view = ap (λ (t : Table). t.clients) c.self.view_is in
    let at = sym c.get.ensures.value ∙ sym c.copied.ensures ∙ c.in-Some.is in
    let here = sym c.in-Some-get_mut.ensures.value in
    let kept = lent_kept slots entries client key was now c.self.invariant at here before view in
    let wrote = lent_clients slots entries client key was now c.self.invariant at here before view f c.set_slow.ensures.session in
    let sets = changed_sets before (table_in (with_value slots key now) entries) client (moved f (kept_in now).room) (kept_in was) wrote kept in
    let seen = ap seen_of wrote ∙ seen-changed client (kept_in now).room f before.clients in
    record {
      slow = seen;
      room = rooms_same before _ client _ sets (c.set_slow.ensures.room ∙ sym (ap room_in kept));
      starts = grind (arith, common_steps);
    }
