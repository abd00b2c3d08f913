use Rattle.std.proofs.Common.{◌<◌, ◌∙◌, ap, sym, subst, arith}
use Rattle.std.proofs.lemmas.Grind.{common_steps}
use Rattle.slab.specs.Slab.{with_value}
use Rattle.walter_rules.specs.Sessions.{with_update}
use Rattle.walter_session.specs.Sessions.{table_in, Table, kept_in}
use Rattle.walter_session.proofs.Tables.{kept_of, room_in, moved, seen_of, seen-changed, changed_sets, rooms_less}
use Rattle.walter_session.proofs.Links.{never_vacant, nothing_kept, lent_linked, lent_clients, lent_kept}
use Rattle.walter_session.proofs.sessions.Sessions.push.Goals as goal

pub invariant_of-self-2 : goal.invariant_of-self-2
invariant_of-self-2 c =
    let at = sym c.get.ensures.value ∙ sym c.copied.ensures ∙ c.in-Some.is in
    let here = sym c.in-Some-get_mut.ensures.value in
    lent_linked c.self.inside.slots c.self.inside.keys.entries c.args.client c.in-Some.key c.in-Some-get_mut.slot.now c.push.new.self c.self.invariant at here c.push.ensures.client

pub push-requires : goal.push-requires
push-requires c =
    let at = sym c.get.ensures.value ∙ sym c.copied.ensures ∙ c.in-Some.is in
    let was = c.in-Some-get_mut.slot.now in
    let kept = lent_kept c.self.inside.slots c.self.inside.keys.entries c.args.client c.in-Some.key was was c.self.invariant at (sym c.in-Some-get_mut.ensures.value) c.args.self.now (ap (λ (t : Table). t.clients) c.self.view_is) in
    subst (λ n. 0 < n) (ap room_in kept) c.requires

pub returns-in_default : goal.returns-in_default
returns-in_default c =
    let none = ap (λ table. kept_of table c.args.client) (sym c.self.view_is) ∙ nothing_kept c.self.inside.slots c.self.inside.keys.entries c.args.client c.self.invariant.each (sym c.get.ensures.value ∙ sym c.copied.ensures ∙ c.in_default.is) in
    absurd (omega (arith, ap room_in none, c.requires))

pub returns-in_default-get_mut : goal.returns-in_default-get_mut
returns-in_default-get_mut c =
    let at = sym c.get.ensures.value ∙ sym c.copied.ensures ∙ c.in-Some.is in
    absurd (never_vacant c.self.inside.slots c.self.inside.keys.entries c.args.client c.in-Some.key c.self.invariant.each at (sym c.in_default-get_mut.ensures.value))

pub returns : goal.returns
returns c =
    let f = with_update c.args.update in
    let slots = c.self.inside.slots in
    let entries = c.self.inside.keys.entries in
    let client = c.args.client in
    let key = c.in-Some.key in
    let was = c.in-Some-get_mut.slot.now in
    let now = c.push.new.self in
    let before = c.args.self.now in
    let view = ap (λ (t : Table). t.clients) c.self.view_is in
    let at = sym c.get.ensures.value ∙ sym c.copied.ensures ∙ c.in-Some.is in
    let here = sym c.in-Some-get_mut.ensures.value in
    let kept = lent_kept slots entries client key was now c.self.invariant at here before view in
    let wrote = lent_clients slots entries client key was now c.self.invariant at here before view f c.push.ensures.session in
    let sets = changed_sets before (table_in (with_value slots key now) entries) client (moved f (kept_in now).room) (kept_in was) wrote kept in
    let seen = ap seen_of wrote ∙ seen-changed client (kept_in now).room f before.clients in
    record {
      added = seen;
      room = rooms_less before _ client _ sets (c.push.ensures.room ∙ sym (ap room_in kept));
      starts = grind (arith, common_steps);
    }
