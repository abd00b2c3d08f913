-- Where what has arrived at each site is a beginning of what was put for it, the trails are linked.
use Rattle.std.proofs.Common.{◌≡◌, ◌≢◌, ℕ, zero, suc, ◌+◌, ◌<◌, ◌≤◌, max, Bool, true, false, List, [], ◌∷◌, ◌++◌, length, map, reverse, take, slice_get, refl, ap, sym, ◌∙◌, subst, arith, if◌then◌else◌, Some, None, Option, inl, inr}
use Rattle.std.specs.Prelude.{All, Contains, slice_index_or, option_map}
use Rattle.std.proofs.lemmas.Bool.{cases_lt}
use Rattle.std.proofs.lemmas.List.{append_assoc, length-map, reverse-append}
use Rattle.std.proofs.lemmas.List.Elements.{All-contains}
use Rattle.std.proofs.lemmas.Option.{slice_get-map}
use mathlib.Core.List.{IsPrefix}
use Rattle.walter_base.specs.declared.names.SiteId.{SiteId}
use Rattle.walter_base.specs.declared.packet.Packet.{Packet}
use Rattle.walter_base.specs.Names.{same_site}
use Rattle.walter_lane.specs.Lanes.{Sending, Receiving}
use Rattle.walter_lane.specs.declared.posted.Posted.{Posted}
use Rattle.walter_packet.specs.Framed.{frame_of, IsFramed}
use Rattle.walter_packet.specs.Spelling.{HasPacketSpelling}
use Rattle.walter_packet.proofs.Packets.{same_packet}
use Rattle.walter_psi.proofs.Lists.{contains_at, Contains-flat_map_from}
use Rattle.walter_rules.specs.declared.entry.Entry.{Entry}
use Rattle.walter_rules.specs.declared.event.Event.{Event}
use Rattle.walter_rules.specs.declared.event.Event.TheVariants.{Given, Stop, Restart}
use Rattle.walter_rules.specs.declared.event.Input.TheVariants.{Call, Deliver, Advance, Tick, Upgrade}
use Rattle.walter_rules.specs.Knowledge.{site_at}
use Rattle.walter_rules.specs.Merges.{Stamped, sent_to, put_out_to, trail_of, IsLinked, AreLinked}
use Rattle.walter_rules.specs.Sending.{Send}
use Rattle.walter_rules.specs.Trails.{clock}
use Rattle.walter_rules.proofs.Membership.{given_from}
use Rattle.walter_outbox.specs.Lanes.{put_to, arrived_from, posted, HavePut, IsArrival, IsNext, AreNext}

-- ---- beginnings of lists

pub get_in_front : {X : Type 0} (xs rest : List X) (k : ℕ) (x : X) → slice_get xs k ≡ Some x → slice_get (xs ++ rest) k ≡ Some x
get_in_front [] rest k x e = absurd cc
get_in_front (y ∷ xs) rest zero x e = e
get_in_front (y ∷ xs) rest (suc k) x e = get_in_front xs rest k x e

-- an element of a beginning stands at the same place of the whole
pub get_from_prefix : {X : Type 0} (xs ys : List X) (k : ℕ) (x : X) → IsPrefix xs ys → slice_get xs k ≡ Some x → slice_get ys k ≡ Some x
get_from_prefix xs ys k x pre e = ap (λ l. slice_get l k) (sym pre.1) ∙ get_in_front xs pre.0 k x e

-- ---- what has arrived stays so where more has

next_stays : (i : SiteId) (ins more : List Receiving) → ((j : ℕ) → IsPrefix (arrived_from ins j) (arrived_from more j))
    → (event : Event) (last stamp : ℕ) → IsNext i ins event last stamp → IsNext i more event last stamp
next_stays i ins more grows (Given (Call client call)) last stamp is = is
next_stays i ins more grows (Given (Deliver j number packet)) last stamp is = record {
  apart = is.apart;
  before = is.before;
  number_is = is.number_is;
  post = is.post;
  there = get_from_prefix (arrived_from ins j.0) (arrived_from more j.0) is.before is.post (grows j.0) is.there;
  framed = is.framed;
  next = is.next;
}
next_stays i ins more grows (Given (Advance j)) last stamp is = is
next_stays i ins more grows (Given Tick) last stamp is = is
next_stays i ins more grows (Given Upgrade) last stamp is = is
next_stays i ins more grows Stop last stamp is = is
next_stays i ins more grows Restart last stamp is = is

pub next_more : (i : SiteId) (ins more : List Receiving) → ((j : ℕ) → IsPrefix (arrived_from ins j) (arrived_from more j))
    → (es : List Entry) → AreNext i ins es → AreNext i more es
next_more i ins more grows [] are = tt
next_more i ins more grows (e ∷ older) are =
    (next_more i ins more grows older are.0, next_stays i ins more grows e.event (clock older) e.stamp are.1)

-- ---- an entry at its place

next_rest : (i : SiteId) (ins : List Receiving) (newer older : List Entry) → AreNext i ins (newer ++ older) → AreNext i ins older
next_rest i ins [] older are = are
next_rest i ins (e ∷ newer) older are = next_rest i ins newer older are.0

parts_at : (trail : List Entry) (place : ℕ) (e : Entry) → slice_get trail place ≡ Some e
    → (rest : List Entry) × (trail ≡ take place trail ++ e ∷ rest)
parts_at [] place e at = absurd cc
parts_at (x ∷ trail) zero e at = (trail, ap (λ (y : Entry). y ∷ trail) cc)
parts_at (x ∷ trail) (suc place) e at =
    let rest = parts_at trail place e at in
    (rest.0, ap (λ (l : List Entry). x ∷ l) rest.1)

pub next_at : (i : SiteId) (ins : List Receiving) (trail : List Entry) (place : ℕ) (e : Entry) → AreNext i ins (reverse trail)
    → slice_get trail place ≡ Some e → IsNext i ins e.event (clock (reverse (take place trail))) e.stamp
next_at i ins trail place e are at =
    let parts = parts_at trail place e at in
    let front = take place trail in
    let turned : reverse trail ≡ reverse parts.0 ++ e ∷ reverse front =
    ap reverse parts.1 ∙ (reverse-append front (e ∷ parts.0)
    ∙ (ap (λ (l : List Entry). l ++ reverse front) (reverse-append (e ∷ []) parts.0)
    ∙ append_assoc (reverse parts.0) (e ∷ []) (reverse front))) in
    (next_rest i ins (reverse parts.0) (e ∷ reverse front) (subst (λ (l : List Entry). AreNext i ins l) turned are)).1

-- ---- what is put out has a spelling

kept_packet : (same : Bool) (stamp : ℕ) (s : Send) (st : Stamped) → (if same then Some (stamp, s.1) else None) ≡ Some st → st.1 ≡ s.1
kept_packet true stamp s st is = let e : (stamp, s.1) ≡ st = cc in ap (λ (x : Stamped). x.1) (sym e)
kept_packet false stamp s st is = absurd cc

put_spelled : (sites : ℕ) (i : SiteId) (trail : List Entry) (st : Stamped)
    → All (λ (e : Entry). All (λ (s : Send). HasPacketSpelling sites s.1) e.came.sends) trail
    → Contains (put_out_to i trail) st → HasPacketSpelling sites st.1
put_spelled sites i trail st all within =
    let from = Contains-flat_map_from (sent_to i) trail st within in
    let e : Entry = from.0 in
    let given = given_from (λ (s : Send). if same_site s.0 i then Some (e.stamp, s.1) else None) e.came.sends st from.2 in
    let s : Send = given.0 in
    let sends = All-contains (λ (x : Entry). All (λ (s : Send). HasPacketSpelling sites s.1) x.came.sends) trail e all from.1 in
    subst (λ (p : Packet). HasPacketSpelling sites p) (sym (kept_packet (same_site s.0 i) e.stamp s st given.2))
    (All-contains (λ (x : Send). HasPacketSpelling sites x.1) e.came.sends s sends given.1)

-- ---- links

mapped_at : (sites : ℕ) (found : Option Stamped) (post : Posted) → option_map (posted sites) found ≡ Some post
    → (st : Stamped) × (found ≡ Some st) × (posted sites st ≡ post)
mapped_at sites None post is = absurd cc
mapped_at sites (Some st) post is = (st, refl, cc)

-- a packet that has arrived was put out
linked_by : (sites : ℕ) (trails : List (List Entry)) (i j : SiteId) (ins : List Receiving) (outs : List Sending) (number : ℕ)
    (packet : Packet) (last stamp : ℕ) → i.0 < sites → IsArrival i ins j number packet last stamp
    → HavePut sites (trail_of trails j) outs → IsPrefix (arrived_from ins j.0) (put_to outs i.0)
    → All (λ (e : Entry). All (λ (s : Send). HasPacketSpelling sites s.1) e.came.sends) (trail_of trails j)
    → IsLinked trails i j number packet last stamp
linked_by sites trails i j ins outs number packet last stamp below is put begins spelled =
    let there = get_from_prefix (arrived_from ins j.0) (put_to outs i.0) is.before is.post begins is.there in
    let all = put.each i.0 below in
    let at = ap (λ (l : List Posted). slice_get l is.before) (sym all) ∙ there in
    let found = mapped_at sites (slice_get (put_out_to i (trail_of trails j)) is.before) is.post
    (sym (slice_get-map (posted sites) (put_out_to i (trail_of trails j)) is.before) ∙ at) in
    let st : Stamped = found.0 in
    let framed : IsFramed (frame_of sites st.1) packet =
    subst (λ (p : Posted). IsFramed p.framed packet) (sym found.2) is.framed in
    let own = put_spelled sites i (trail_of trails j) st spelled (contains_at (put_out_to i (trail_of trails j)) st is.before found.1) in
    let same : st.1 ≡ packet = same_packet sites st.1 packet own framed.spelled framed.bytes in
    let stamped : st.0 ≡ is.post.stamp = ap (λ (p : Posted). p.stamp) found.2 in
    let next = is.next in
    record {
      before = is.before;
      number_is = is.number_is;
      put = st.0;
      source = found.1 ∙ ap (λ (p : Packet). Some (st.0, p)) same;
      lower = omega (arith, next, stamped);
      next = next ∙ ap (λ n. max last n + 1) (sym stamped);
    }

none_there : (trails : List (List Entry)) (n : ℕ) → length trails ≤ n → slice_index_or trails n [] ≡ []
none_there [] n past = refl
none_there (x ∷ trails) zero past = absurd (omega (arith, past))
none_there (x ∷ trails) (suc n) past = none_there trails n (omega (arith, past))

none_arrived : (lists : List (List Posted)) (n : ℕ) → length lists ≤ n → slice_index_or lists n [] ≡ []
none_arrived [] n past = refl
none_arrived (x ∷ lists) zero past = absurd (omega (arith, past))
none_arrived (x ∷ lists) (suc n) past = none_arrived lists n (omega (arith, past))

module _ (sites : ℕ) (trails : List (List Entry)) (ins : ℕ → List Receiving) (outs : ℕ → List Sending)
    (one_each : length trails ≡ sites)
    (few : (i : ℕ) → i < sites → length (ins i) ≡ sites)
    (next : (i : ℕ) → i < sites → AreNext (site_at i) (ins i) (reverse (trail_of trails (site_at i))))
    (put : (j : ℕ) → j < sites → HavePut sites (trail_of trails (site_at j)) (outs j))
    (spelled : (j : ℕ) → j < sites
    → All (λ (e : Entry). All (λ (s : Send). HasPacketSpelling sites s.1) e.came.sends) (trail_of trails (site_at j)))
    (begins : (i j : ℕ) → i < sites → j < sites → i ≢ j → IsPrefix (arrived_from (ins i) j) (put_to (outs j) i)) where
  pub linked : AreLinked trails
  linked i place e j number packet at is = elim (cases_lt i.0 sites) [
    | inl below ↦
        let here : IsNext i (ins i.0) e.event (clock (reverse (take place (trail_of trails i)))) e.stamp =
        next_at i (ins i.0) (trail_of trails i) place e (next i.0 below) at in
        let arrives : IsArrival i (ins i.0) j number packet (clock (reverse (take place (trail_of trails i)))) e.stamp =
        subst (λ (ev : Event). IsNext i (ins i.0) ev (clock (reverse (take place (trail_of trails i)))) e.stamp) is here in
        elim (cases_lt j.0 sites) [
          | inl there ↦
              linked_by sites trails i j (ins i.0) (outs j.0) number packet (clock (reverse (take place (trail_of trails i)))) e.stamp below arrives
              (put j.0 there) (begins i.0 j.0 below there (λ same. arrives.apart (ap site_at (sym same)))) (spelled j.0 there)
          | inr past ↦
              let l = few i.0 below in
              let none : arrived_from (ins i.0) j.0 ≡ [] =
              none_arrived (map (λ (r : Receiving). r.arrived) (ins i.0)) j.0
              (let m = length-map (ins i.0) (λ (r : Receiving). r.arrived) in omega (arith, m, l, past)) in
              let z : slice_get [] arrives.before ≡ Some arrives.post = ap (λ (x : List Posted). slice_get x arrives.before) (sym none) ∙ arrives.there in
              absurd cc
        ]
    | inr past ↦
        let none = none_there trails i.0 (omega (arith, one_each, past)) in
        let z : slice_get [] place ≡ Some e = ap (λ (x : List Entry). slice_get x place) (sym none) ∙ at in
        absurd cc
  ]
