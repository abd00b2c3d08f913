-- What comes to a site of a world: its packet was put out early enough, and has its sizes; and the stamps behind it.
use Rattle.std.proofs.Common.{◌≡◌, ℕ, zero, suc, ◌+◌, ◌<◌, max, Bool, true, false, List, [], ◌∷◌, reverse, slice_get, Some, None, refl, ap, sym, ◌∙◌, subst, arith, if◌then◌else◌, inl, inr}
use Rattle.std.specs.Prelude.{All}
use Rattle.std.proofs.lemmas.Bool.{cases_eq}
use Rattle.std.proofs.lemmas.List.{reverse-append}
use Rattle.std.proofs.lemmas.List.Elements.{All-contains}
use Rattle.walter_base.specs.declared.catalog.Catalog.{Catalog}
use Rattle.walter_base.specs.declared.format.Format.{Format}
use Rattle.walter_base.specs.declared.names.SiteId.{SiteId}
use Rattle.walter_base.specs.Names.{same_site}
use Rattle.walter_machine.specs.States.{IsSizedEvent}
use Rattle.walter_packet.specs.Spelling.{HasPacketSpelling}
use Rattle.walter_psi.proofs.Lists.{contains_at, Contains-flat_map_from}
use Rattle.walter_rules.specs.declared.entry.Entry.{Entry}
use Rattle.walter_rules.specs.declared.event.Event.{Event}
use Rattle.walter_rules.specs.Knowledge.{site_at}
use Rattle.walter_rules.specs.Layouts.{Layout}
use Rattle.walter_rules.specs.Merges.{Stamped, sent_to, put_out_to, trail_of}
use Rattle.walter_rules.specs.Sending.{Send}
use Rattle.walter_rules.specs.Trails.{clock}
use Rattle.walter_rules.proofs.Membership.{given_from}
use Rattle.walter_runs.specs.Runs.{AreRightTrails}
use Rattle.walter_site.specs.Members.{IsSizedPacket}
use Rattle.walter_world.specs.declared.events.What.{What}
use Rattle.walter_world.specs.declared.events.WorldEvent.{WorldEvent}
use Rattle.walter_world.specs.Comings.{entry_of}
use Rattle.walter_machine.specs.Posts.{of_number}
use Rattle.walter_world.specs.Events.{Brings, a_call, a_packet, an_advance, a_tick, an_upgrade, a_stop, a_restart, IsWithin, keeps}
use Rattle.walter_world.specs.Seats.{AreSpelled, MayFind}
use Rattle.walter_world.specs.Worlds.{AreEarly, HasHappened}
use Rattle.walter_world.proofs.Clocks.{put_later}

-- ---- the packet that it brings

numbered : (number : ℕ) (sent : List Stamped) (put : Stamped) → of_number number sent ≡ Some put
    → (place : ℕ) × (slice_get sent place ≡ Some put)
numbered zero sent put is = absurd cc
numbered (suc before) sent put is = (before, is)

packet_in : (same : Bool) (stamp : ℕ) (s : Send) (put : Stamped) → (if same then Some (stamp, s.1) else None) ≡ Some put
    → put.1 ≡ s.1
packet_in true stamp s put is = let e : (stamp, s.1) ≡ put = cc in ap (λ (x : Stamped). x.1) (sym e)
packet_in false stamp s put is = absurd cc

put_sized : (sites : ℕ) (to : SiteId) (trail : List Entry) (place : ℕ) (put : Stamped)
    → All (λ (e : Entry). AreSpelled sites e.came) trail → slice_get (put_out_to to trail) place ≡ Some put
    → IsSizedPacket sites put.1
put_sized sites to trail place put all at =
    let from = Contains-flat_map_from (sent_to to) trail put (contains_at (put_out_to to trail) put place at) in
    let e : Entry = from.0 in
    let given = given_from (λ (s : Send). if same_site s.0 to then Some (e.stamp, s.1) else None) e.came.sends put from.2 in
    let is = packet_in (same_site given.0.0 to) e.stamp given.0 put given.2 in
    let here : AreSpelled sites e.came = All-contains (λ (x : Entry). AreSpelled sites x.came) trail e all from.1 in
    let spelled : HasPacketSpelling sites given.0.1 =
    All-contains (λ (s : Send). HasPacketSpelling sites s.1) e.came.sends given.0 here given.1 in
    subst (IsSizedPacket sites) (sym is) (record { sizes = spelled.sizes; among = spelled.among })

module _ (catalog : Catalog) (trails : List (List Entry)) (i : SiteId) where
  pub put_early : (layouts : SiteId → Layout) (bound : ℕ) → AreRightTrails catalog layouts trails → AreEarly bound trails
      → (what : What) (event : Event) (put : ℕ) → IsWithin catalog.sites what → Brings trails i what event put → put < bound
  put_early layouts bound right early what event put within (a_packet from number stamp packet is) =
      let found = numbered number (put_out_to i (trail_of trails from)) (stamp, packet) is in
      let low = put_later catalog (layouts from) from i (trail_of trails from) found.0 (stamp, packet) (right.right from within).right
      found.1 in
      let now = early from in
      omega (arith, low, now)
  put_early layouts bound right early what event put within (a_call client body call calls) =
      let now = early i in omega (arith, now)
  put_early layouts bound right early what event put within (an_advance from) = let now = early i in omega (arith, now)
  put_early layouts bound right early what event put within a_tick = let now = early i in omega (arith, now)
  put_early layouts bound right early what event put within an_upgrade = let now = early i in omega (arith, now)
  put_early layouts bound right early what event put within a_stop = let now = early i in omega (arith, now)
  put_early layouts bound right early what event put within (a_restart kept) = let now = early i in omega (arith, now)

  pub event_sized : ((j : SiteId) → j.0 < catalog.sites → All (λ (e : Entry). AreSpelled catalog.sites e.came) (trail_of trails j))
      → (what : What) (event : Event) (put : ℕ) → IsWithin catalog.sites what → Brings trails i what event put
      → IsSizedEvent catalog.sites event
  event_sized all what event put within (a_packet from number stamp packet is) =
      let found = numbered number (put_out_to i (trail_of trails from)) (stamp, packet) is in
      put_sized catalog.sites i (trail_of trails from) found.0 (stamp, packet) (all from within) found.1
  event_sized all what event put within (a_call client body call calls) = tt
  event_sized all what event put within (an_advance from) = tt
  event_sized all what event put within a_tick = tt
  event_sized all what event put within an_upgrade = tt
  event_sized all what event put within a_stop = tt
  event_sized all what event put within (a_restart kept) = tt

  pub may_find : (what : What) (event : Event) (put : ℕ) → Brings trails i what event put → MayFind event (keeps what)
  may_find what event put (a_call client body call calls) = refl
  may_find what event put (a_packet from number stamp packet is) = refl
  may_find what event put (an_advance from) = refl
  may_find what event put a_tick = refl
  may_find what event put an_upgrade = refl
  may_find what event put a_stop = refl
  may_find what event put (a_restart kept) = tt

-- ---- the stamps behind it

pub later_by_one : (format : Format) (catalog : Catalog) (old new : List (List Entry)) (w : WorldEvent) (bound : ℕ)
    → (happened : HasHappened format catalog old w new) → happened.put < bound → AreEarly bound old
    → AreEarly (bound + 1) new
later_by_one format catalog old new w bound happened put early j = elim (cases_eq j.0 w.site.0) [
  | inl here ↦
      let trail : List Entry = trail_of old w.site in
      let e : Entry = entry_of format catalog w.site trail happened.event happened.put (keeps w.what) w.fate in
      let site : j ≡ w.site = ap site_at here in
      let last : clock (reverse (trail_of new j)) ≡ e.stamp =
      ap (λ (k : SiteId). clock (reverse (trail_of new k))) site
      ∙ (ap (λ (t : List Entry). clock (reverse t)) happened.here ∙ ap clock (reverse-append trail (e ∷ []))) in
      let before = early w.site in
      let stamp : e.stamp ≡ max (clock (reverse trail)) happened.put + 1 = refl in
      omega (arith, last, stamp, before, put)
  | inr there ↦
      let same = ap (λ (t : List Entry). clock (reverse t))
      (happened.others j (λ is. there (ap (λ (k : SiteId). k.0) is))) in
      let before = early j in
      omega (arith, same, before)
]
