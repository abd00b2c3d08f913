use Rattle.std.proofs.Common.{◌≡◌, ℕ, ◌-◌, ◌∙◌, ◌∷◌, ◌++◌, [], nat_eq, refl, ap, sym, subst, arith, vec_len, vec_capacity}
use Rattle.std.proofs.lemmas.List.{map-append}
use Rattle.indexmap.proofs.CallerLemmas.{insert_entry-new}
use Rattle.walter_session.specs.declared.slot.Slot.{Slot}
use Rattle.walter_session.specs.Sessions.{table_in, SessionWithRoom, Table, session_of, sessions_of, CanStart, AreLinked, clients_in, kept_in}
use Rattle.walter_session.proofs.Tables.{seen_of, rooms_behind, from_ok}
use Rattle.walter_session.proofs.Links.{no_key_of, put_clients, put_linked}
use Rattle.walter_session.proofs.sessions.Sessions.put.Goals as goal

pub invariant_of-self : goal.invariant_of-self
invariant_of-self c =
    let slots = c.self.inside.slots in
    let entries = c.self.inside.keys.entries in
    let client = c.args.client in
    let key = c.insert_reserved-key.result in
    let made = c.insert_reserved-key.ensures in
    let now = c.insert_reserved-key.new.self in
    let can = subst CanStart (sym c.self.view_is) c.requires.room in
    let absent = no_key_of slots entries client c.self.invariant.each (ap (λ table. session_of table client) c.self.view_is ∙ c.requires.none) in
    let all = from_ok c.insert.result _ (c.insert.ensures.succeeds (omega (arith, can))) c.insert.ensures.entries ∙ insert_entry-new nat_eq c.self.inside.keys client key absent in
    let slot : Slot = record { client = client; session = record { tid = c.args.tid; snapshot = c.args.snapshot; updates = c.new.result; slow = 0 } } in
    subst (λ keys. AreLinked keys now) (sym all) (put_linked slots now client key _ (λ slot is. absurd (cc (made.was_vacant))) made.updates entries slot refl refl c.self.invariant absent made.len)

pub returns : goal.returns
returns c =
    let slots = c.self.inside.slots in
    let entries = c.self.inside.keys.entries in
    let client = c.args.client in
    let key = c.insert_reserved-key.result in
    let made = c.insert_reserved-key.ensures in
    let can = subst CanStart (sym c.self.view_is) c.requires.room in
    let absent = no_key_of slots entries client c.self.invariant.each (ap (λ table. session_of table client) c.self.view_is ∙ c.requires.none) in
    let all = from_ok c.insert.result _ (c.insert.ensures.succeeds (omega (arith, can))) c.insert.ensures.entries ∙ insert_entry-new nat_eq c.self.inside.keys client key absent in
    let clients = ap (clients_in c.insert_reserved-key.new.self) all
    ∙ put_clients slots c.insert_reserved-key.new.self client key _ (λ slot is. absurd (cc (made.was_vacant))) made.updates entries _ refl c.self.invariant.each absent in
    let slot : Slot = record { client = client; session = record { tid = c.args.tid; snapshot = c.args.snapshot; updates = c.new.result; slow = 0 } } in
    let behind = clients ∙ ap (λ (table : Table). table.clients ++ (client, kept_in slot) ∷ []) c.self.view_is in
    let fresh : vec_capacity c.new.result - vec_len c.new.result ≡ 0 = omega (arith, c.new.ensures.len, c.new.ensures.capacity) in
    record {
      started = ap seen_of behind ∙ map-append (λ (e : ℕ × SessionWithRoom). (e.0, e.1.session)) c.args.self.now.clients ((client, kept_in slot) ∷ [])
          ∙ ap (λ us. sessions_of c.args.self.now ++ (client, record { tid = c.args.tid; snapshot = c.args.snapshot; updates = us; slow = 0 }) ∷ []) c.new.ensures.items;
      room = rooms_behind c.args.self.now (table_in c.insert_reserved-key.new.self c.insert.new.self.entries) client (kept_in slot) behind fresh;
    }
