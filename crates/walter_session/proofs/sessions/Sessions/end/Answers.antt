use Rattle.std.proofs.Common.{◌≡◌, ◌+◌, ◌∙◌, ℕ, Bool, true, false, None, is_some, if◌then◌else◌, length, ap, sym, refl, subst, arith}
use Rattle.slab.specs.Slab.{slab_len}
use Rattle.walter_session.specs.Sessions.{table_in, Table, AreLinked, SessionWithRoom, clients_in, session_of, slots_left}
use Rattle.walter_base.specs.ByClient.{without}
use Rattle.walter_base.proofs.ByClient.{removed-absent, seen-without}
use Rattle.walter_session.proofs.Tables.{seen_of, without_sets, rooms, from_some}
use Rattle.walter_session.proofs.Links.{own_slot, only_own, found, end_clients, end_linked, end_nothing, same_linked}
use Rattle.walter_session.proofs.sessions.Sessions.end.Goals as goal

freed_of : (had : Bool) (b : Bool) (more less : ℕ) → had ≡ b → more ≡ less + (if b then 1 else 0) → more ≡ less + (if had then 1 else 0)
freed_of had b more less is holds = subst (λ (h : Bool). more ≡ less + (if h then 1 else 0)) (sym is) holds

pub invariant_of-self : goal.invariant_of-self
invariant_of-self c =
    let slots = c.self.inside.slots in
    let entries = c.self.inside.keys.entries in
    let same = c.shift_remove.ensures.entries ∙ removed-absent c.args.client entries (sym c.shift_remove.ensures.value ∙ c.in_default.is) in
    same_linked slots slots entries c.shift_remove.new.self.entries same refl c.self.invariant

pub invariant_of-self-2 : goal.invariant_of-self-2
invariant_of-self-2 c =
    let slots = c.self.inside.slots in
    let entries = c.self.inside.keys.entries in
    let client = c.args.client in
    let key = c.in-Some.key in
    let at = sym c.shift_remove.ensures.value ∙ c.in-Some.is in
    let own = own_slot slots entries client key c.self.invariant.each at in
    let only = only_own slots entries client key c.self.invariant.each at in
    let less = from_some c.try_remove.result own.0 _ (c.try_remove.ensures.value ∙ own.1) c.try_remove.ensures.len in
    let fewer = ap (λ o. length c.shift_remove.new.self.entries + (if is_some o then 1 else 0)) (sym c.in-Some.is) ∙ c.shift_remove.ensures.len in
    let counted : slab_len c.try_remove.new.self ≡ length c.shift_remove.new.self.entries = omega (arith, less, fewer, c.self.invariant.counted) in
    subst (λ keys. AreLinked keys c.try_remove.new.self) (sym c.shift_remove.ensures.entries)
    (end_linked slots c.try_remove.new.self client key None only c.try_remove.ensures.updates entries c.self.invariant (counted ∙ ap length c.shift_remove.ensures.entries))

pub returns-in_default : goal.returns-in_default
returns-in_default c =
    let slots = c.self.inside.slots in
    let entries = c.self.inside.keys.entries in
    let client = c.args.client in
    let before = c.args.self.now in
    let absent = sym c.shift_remove.ensures.value ∙ c.in_default.is in
    let clients = ap (clients_in slots) (c.shift_remove.ensures.entries ∙ removed-absent client entries absent) ∙ sym (end_nothing slots entries client c.self.invariant absent)
    ∙ ap (λ (t : Table). without client t.clients) c.self.view_is in
    let had = ap (λ (t : Table). is_some (session_of t client)) (sym c.self.view_is) ∙ found slots entries client c.self.invariant.each ∙ ap is_some absent in
    let same = ap (λ (t : Table). t.slots) c.self.view_is in
    let keys = ap (λ (t : Table). t.keys) c.self.view_is in
    record {
      sessions = ap seen_of clients ∙ seen-without (λ (k : SessionWithRoom). k.session) client before.clients;
      room = rooms before _ client None (without_sets before (table_in slots c.shift_remove.new.self.entries) client clients);
      freed = freed_of _ false _ before.slots had (omega (arith, same));
      keys = omega (arith, keys, c.shift_remove.ensures.room.0);
      starts = λ can. (omega (arith, can.0, same), omega (arith, can.1, keys, c.shift_remove.ensures.room.0));
    }

pub returns : goal.returns
returns c =
    let slots = c.self.inside.slots in
    let entries = c.self.inside.keys.entries in
    let client = c.args.client in
    let key = c.in-Some.key in
    let before = c.args.self.now in
    let at = sym c.shift_remove.ensures.value ∙ c.in-Some.is in
    let own = own_slot slots entries client key c.self.invariant.each at in
    let only = only_own slots entries client key c.self.invariant.each at in
    let clients = ap (clients_in c.try_remove.new.self) c.shift_remove.ensures.entries ∙ end_clients slots c.try_remove.new.self client key None only c.try_remove.ensures.updates entries c.self.invariant
    ∙ ap (λ (t : Table). without client t.clients) c.self.view_is in
    let is_there = c.try_remove.ensures.value ∙ own.1 in
    let less = from_some c.try_remove.result own.0 _ is_there c.try_remove.ensures.len in
    let within = from_some c.try_remove.result own.0 _ is_there c.try_remove.ensures.room in
    let had = ap (λ (t : Table). is_some (session_of t client)) (sym c.self.view_is) ∙ found slots entries client c.self.invariant.each ∙ ap is_some at in
    let same = ap (λ (t : Table). t.slots) c.self.view_is in
    let keys = ap (λ (t : Table). t.keys) c.self.view_is in
    let more : slots_left c.try_remove.new.self ≡ before.slots + 1 = omega (arith, less, within, same, c.try_remove.ensures.capacity) in
    record {
      sessions = ap seen_of clients ∙ seen-without (λ (k : SessionWithRoom). k.session) client before.clients;
      room = rooms before _ client None (without_sets before (table_in c.try_remove.new.self c.shift_remove.new.self.entries) client clients);
      freed = freed_of _ true _ before.slots had more;
      keys = omega (arith, keys, c.shift_remove.ensures.room.0);
      starts = λ can. (omega (arith, more), omega (arith, can.1, keys, c.shift_remove.ensures.room.0));
    }
