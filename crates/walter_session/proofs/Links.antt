-- What a change of one slot, and of one client's key, leaves of what is kept of the clients.
use Rattle.std.proofs.Common.{◌≡◌, ◌≢◌, ℕ, zero, suc, ◌+◌, ◌≤◌, true, false, cond, not, nat_eq, List, [], ◌∷◌, ◌++◌, All, Option, Some, None, refl, ap, sym, ◌∙◌, subst, option_map, is_some, length, if◌then◌else◌, inl, inr, arith}
use Rattle.std.specs.Prelude.{slice_get, slice_index_or}
use Rattle.std.specs.List.{cons_option, count_by}
use Rattle.std.specs.Option.{option_and_then}
use Rattle.std.specs.Map.{lookup, remove_entry}
use Rattle.std.proofs.lemmas.Bool.{eqb-true, eq-eqb}
use Rattle.std.proofs.lemmas.List.{length-map, length-append}
use Rattle.std.proofs.lemmas.List.Elements.{All-nil, All-cons, All-head, All-tail, All-push, filter_map-append}
use Rattle.std.proofs.lemmas.Grind.{common_steps}
use Rattle.std.proofs.lemmas.Map.Made.{lookup-map_values}
use Rattle.std.proofs.lemmas.Option.{slice_get_cases, slice_get_past, slice_get_within, get_or_from_slice_get}
use Rattle.slab.specs.Slab.{Slab, get, slab_len, with_value, Updates}
use Rattle.slab.proofs.SlabLemmas.{Updates-with_value}
use Rattle.walter_session.specs.declared.slot.Slot.{Slot}
use Rattle.walter_base.specs.ByClient.{AreApart, changed, without}
use Rattle.walter_rules.specs.Sessions.{Session}
use Rattle.walter_session.specs.Sessions.{SessionWithRoom, Table, table_in, sessions_of, session_of, kept_in, clients_in, IsKeyOf, AreLinked}
use Rattle.walter_session.proofs.Tables.{moved}
use Rattle.walter_base.proofs.ByClient.{absent_head, absent_tail, changed-absent, without-absent, apart_behind, apart_left}

-- what the slots keep under a key, if there is one
abbrev pub kept_at : Slab Slot → Option ℕ → Option SessionWithRoom
kept_at slots key = option_and_then (λ k. option_map kept_in (get slots k)) key

-- what is kept in a slot, before the rest, where there is a slot
abbrev pub with_slot : ℕ → Option Slot → List (ℕ × SessionWithRoom) → List (ℕ × SessionWithRoom)
with_slot client slot rest = cons_option (option_map (λ s. (client, kept_in s)) slot) rest

-- the slot under this key is of the client, if there is one
abbrev pub IsOnlyOf : Slab Slot → ℕ → ℕ → Type 0
IsOnlyOf slots key client = (slot : Slot) → get slots key ≡ Some slot → slot.client ≡ client

clients-head : (slots : Slab Slot) (e : ℕ × ℕ) (keys : List (ℕ × ℕ)) (slot : Option Slot) → get slots e.1 ≡ slot → clients_in slots (e ∷ keys) ≡ with_slot e.0 slot (clients_in slots keys)
clients-head slots e keys slot at = ap (λ s. with_slot e.0 s (clients_in slots keys)) at

-- what is kept of a client is what is in the slot under its key
pub kept_found : (slots : Slab Slot) (keys : List (ℕ × ℕ)) (client : ℕ) → All (IsKeyOf slots) keys → lookup (nat_eq client) (clients_in slots keys) ≡ kept_at slots (lookup (nat_eq client) keys)
kept_found slots [] client each = refl
kept_found slots (e ∷ keys) client each =
    let own = All-head (IsKeyOf slots) e keys each in
    ap (lookup (nat_eq client)) (clients-head slots e keys (Some own.0) own.1)
    ∙ (elim (nat_eq client e.0) as (λ b. cond b (Some (kept_in own.0)) (lookup (nat_eq client) (clients_in slots keys)) ≡ kept_at slots (cond b (Some e.1) (lookup (nat_eq client) keys))) [
      | true ↦ sym (ap (option_map kept_in) own.1)
      | false ↦ kept_found slots keys client (All-tail (IsKeyOf slots) e keys each)
    ])

pub clients_count : (slots : Slab Slot) (keys : List (ℕ × ℕ)) → All (IsKeyOf slots) keys → length (clients_in slots keys) ≡ length keys
clients_count slots [] each = refl
clients_count slots (e ∷ keys) each =
    let own = All-head (IsKeyOf slots) e keys each in
    ap length (clients-head slots e keys (Some own.0) own.1) ∙ ap suc (clients_count slots keys (All-tail (IsKeyOf slots) e keys each))

-- no two of what is kept are of one client
pub kept_apart : (slots : Slab Slot) (keys : List (ℕ × ℕ)) → All (IsKeyOf slots) keys → AreApart keys → AreApart (clients_in slots keys)
kept_apart slots [] each apart = tt
kept_apart slots (e ∷ keys) each apart =
    let own = All-head (IsKeyOf slots) e keys each in
    let rest = All-tail (IsKeyOf slots) e keys each in
    subst AreApart (sym (clients-head slots e keys (Some own.0) own.1)) (kept_found slots keys e.0 rest ∙ ap (kept_at slots) apart.0, kept_apart slots keys rest apart.1)

-- the key of another client is another key
other_key : (slots : Slab Slot) (e : ℕ × ℕ) (client key : ℕ) → IsKeyOf slots e → IsOnlyOf slots key client → nat_eq client e.0 ≡ false → e.1 ≢ key
other_key slots e client key own only apart same =
    let there : get slots key ≡ Some own.0 = ap (get slots) (sym same) ∙ own.1 in
    let one : client ≡ e.0 = sym (only own.0 there) ∙ own.2 in
    let yes = eq-eqb client e.0 one in
    absurd (cc)

module _ (old new : Slab Slot) (client key : ℕ) (slot : Option Slot) (only : IsOnlyOf old key client) (updates : Updates old new key slot) where
  same_slot : (e : ℕ × ℕ) → IsKeyOf old e → nat_eq client e.0 ≡ false → get new e.1 ≡ get old e.1
  same_slot e own apart = updates.others e.1 (other_key old e client key own only apart)

  key_kept : (e : ℕ × ℕ) → IsKeyOf old e → nat_eq client e.0 ≡ false → IsKeyOf new e
  key_kept e own apart = (own.0, same_slot e own apart ∙ own.1, own.2)

  -- what is of others stays
  others_kept : (keys : List (ℕ × ℕ)) → All (IsKeyOf old) keys → lookup (nat_eq client) keys ≡ None → clients_in new keys ≡ clients_in old keys
  others_kept [] each none = refl
  others_kept (e ∷ keys) each none =
      let own = All-head (IsKeyOf old) e keys each in
      ap (λ s. with_slot e.0 s (clients_in new keys)) (same_slot e own (absent_head client e keys none))
      ∙ ap (λ rest. with_slot e.0 (get old e.1) rest) (others_kept keys (All-tail (IsKeyOf old) e keys each) (absent_tail client e keys none))

  others_linked : (keys : List (ℕ × ℕ)) → All (IsKeyOf old) keys → lookup (nat_eq client) keys ≡ None → All (IsKeyOf new) keys
  others_linked [] each none = All-nil (IsKeyOf new)
  others_linked (e ∷ keys) each none =
      All-cons (IsKeyOf new) e keys (key_kept e (All-head (IsKeyOf old) e keys each) (absent_head client e keys none))
      (others_linked keys (All-tail (IsKeyOf old) e keys each) (absent_tail client e keys none))

  -- a new slot's key is put behind
  pub put_clients : (keys : List (ℕ × ℕ)) (now : Slot) → slot ≡ Some now → All (IsKeyOf old) keys → lookup (nat_eq client) keys ≡ None
      → clients_in new (keys ++ (client, key) ∷ []) ≡ clients_in old keys ++ (client, kept_in now) ∷ []
  put_clients keys now is each none =
      filter_map-append (λ e. option_map (λ s. (e.0, kept_in s)) (get new e.1)) keys ((client, key) ∷ [])
      ∙ ap (λ front. front ++ clients_in new ((client, key) ∷ [])) (others_kept keys each none)
      ∙ ap (λ s. clients_in old keys ++ with_slot client s []) (updates.changed ∙ is)

  pub put_linked : (keys : List (ℕ × ℕ)) (now : Slot) → slot ≡ Some now → now.client ≡ client → AreLinked keys old → lookup (nat_eq client) keys ≡ None
      → slab_len new ≡ slab_len old + 1 → AreLinked (keys ++ (client, key) ∷ []) new
  put_linked keys now is same linked none more = record {
    each = All-push (IsKeyOf new) keys (client, key) (others_linked keys linked.each none) (now, updates.changed ∙ is, same);
    apart = apart_behind client key keys linked.apart none;
    counted = omega (arith, more, linked.counted, length-append keys ((client, key) ∷ []));
  }

  -- the slot of the client's key changes
  pub write_clients : (f : SessionWithRoom → SessionWithRoom) (was now : Slot) → slot ≡ Some now → get old key ≡ Some was → f (kept_in was) ≡ kept_in now
      → (keys : List (ℕ × ℕ)) → AreLinked keys old → lookup (nat_eq client) keys ≡ Some key → clients_in new keys ≡ changed client f (clients_in old keys)
  write_clients f was now is here shows keys linked at = by keys linked.each linked.apart at
    where
      by : (keys : List (ℕ × ℕ)) → All (IsKeyOf old) keys → AreApart keys → lookup (nat_eq client) keys ≡ Some key → clients_in new keys ≡ changed client f (clients_in old keys)
      by [] each apart at = absurd (cc)
      by (e ∷ keys) each apart at =
          let own = All-head (IsKeyOf old) e keys each in
          let rest = All-tail (IsKeyOf old) e keys each in
          let before = ap (changed client f) (clients-head old e keys (Some own.0) own.1) in
          (elim (nat_eq client e.0) as (λ b. nat_eq client e.0 ≡ b → cond b (Some e.1) (lookup (nat_eq client) keys) ≡ Some key
          → clients_in new (e ∷ keys) ≡ (if b then (e.0, f (kept_in own.0)) else (e.0, kept_in own.0)) ∷ changed client f (clients_in old keys)) [
            | true ↦ λ yes found.
                let one : e.1 ≡ key = cc in
                let none = ap (λ c. lookup (nat_eq c) keys) (eqb-true client e.0 yes) ∙ apart.0 in
                let mine : own.0 ≡ was = cc (ap (get old) one) in
                clients-head new e keys (Some now) (ap (get new) one ∙ updates.changed ∙ is)
                ∙ ap (λ k. (e.0, k) ∷ clients_in new keys) (sym shows ∙ ap (λ s. f (kept_in s)) (sym mine))
                ∙ ap (λ os. (e.0, f (kept_in own.0)) ∷ os) (others_kept keys rest none ∙ sym (changed-absent client f (clients_in old keys) (kept_found old keys client rest ∙ ap (kept_at old) none)))
            | false ↦ λ no found.
                clients-head new e keys (Some own.0) (same_slot e own no ∙ own.1)
                ∙ ap (λ os. (e.0, kept_in own.0) ∷ os) (by keys rest apart.1 found)
          ] refl at)
          ∙ sym before

  pub write_linked : (was now : Slot) → slot ≡ Some now → get old key ≡ Some was → now.client ≡ was.client → slab_len new ≡ slab_len old
      → (keys : List (ℕ × ℕ)) → AreLinked keys old → lookup (nat_eq client) keys ≡ Some key → AreLinked keys new
  write_linked was now is here same count keys linked at = record { each = by keys linked.each linked.apart at; apart = linked.apart; counted = count ∙ linked.counted }
    where
      by : (keys : List (ℕ × ℕ)) → All (IsKeyOf old) keys → AreApart keys → lookup (nat_eq client) keys ≡ Some key → All (IsKeyOf new) keys
      by [] each apart at = All-nil (IsKeyOf new)
      by (e ∷ keys) each apart at =
          let own = All-head (IsKeyOf old) e keys each in
          let rest = All-tail (IsKeyOf old) e keys each in
          elim (nat_eq client e.0) as (λ b. nat_eq client e.0 ≡ b → cond b (Some e.1) (lookup (nat_eq client) keys) ≡ Some key → All (IsKeyOf new) (e ∷ keys)) [
            | true ↦ λ yes found.
                let one : e.1 ≡ key = cc in
                let none = ap (λ c. lookup (nat_eq c) keys) (eqb-true client e.0 yes) ∙ apart.0 in
                let mine : own.0 ≡ was = cc (ap (get old) one) in
                All-cons (IsKeyOf new) e keys (now, ap (get new) one ∙ updates.changed ∙ is, same ∙ ap (λ (s : Slot). s.client) (sym mine) ∙ own.2) (others_linked keys rest none)
            | false ↦ λ no found. All-cons (IsKeyOf new) e keys (key_kept e own no) (by keys rest apart.1 found)
          ] refl at

  -- the client's key is taken out, and its slot emptied
  pub end_clients : (keys : List (ℕ × ℕ)) → AreLinked keys old → clients_in new (remove_entry (nat_eq client) keys) ≡ without client (clients_in old keys)
  end_clients keys linked = by keys linked.each linked.apart
    where
      by : (keys : List (ℕ × ℕ)) → All (IsKeyOf old) keys → AreApart keys → clients_in new (remove_entry (nat_eq client) keys) ≡ without client (clients_in old keys)
      by [] each apart = refl
      by (e ∷ keys) each apart =
          let own = All-head (IsKeyOf old) e keys each in
          let rest = All-tail (IsKeyOf old) e keys each in
          let before = ap (without client) (clients-head old e keys (Some own.0) own.1) in
          (elim (nat_eq client e.0) as (λ b. nat_eq client e.0 ≡ b → clients_in new (cond b keys (e ∷ remove_entry (nat_eq client) keys))
          ≡ cond (not b) ((e.0, kept_in own.0) ∷ without client (clients_in old keys)) (without client (clients_in old keys))) [
            | true ↦ λ yes.
                let none = ap (λ c. lookup (nat_eq c) keys) (eqb-true client e.0 yes) ∙ apart.0 in
                others_kept keys rest none ∙ sym (without-absent client (clients_in old keys) (kept_found old keys client rest ∙ ap (kept_at old) none))
            | false ↦ λ no.
                clients-head new e (remove_entry (nat_eq client) keys) (Some own.0) (same_slot e own no ∙ own.1)
                ∙ ap (λ os. (e.0, kept_in own.0) ∷ os) (by keys rest apart.1)
          ] refl)
          ∙ sym before

  pub end_linked : (keys : List (ℕ × ℕ)) → AreLinked keys old → slab_len new ≡ length (remove_entry (nat_eq client) keys) → AreLinked (remove_entry (nat_eq client) keys) new
  end_linked keys linked count = record { each = by keys linked.each linked.apart; apart = apart_left client keys linked.apart; counted = count }
    where
      by : (keys : List (ℕ × ℕ)) → All (IsKeyOf old) keys → AreApart keys → All (IsKeyOf new) (remove_entry (nat_eq client) keys)
      by [] each apart = All-nil (IsKeyOf new)
      by (e ∷ keys) each apart =
          let own = All-head (IsKeyOf old) e keys each in
          let rest = All-tail (IsKeyOf old) e keys each in
          elim (nat_eq client e.0) as (λ b. nat_eq client e.0 ≡ b → All (IsKeyOf new) (cond b keys (e ∷ remove_entry (nat_eq client) keys))) [
            | true ↦ λ yes. others_linked keys rest (ap (λ c. lookup (nat_eq c) keys) (eqb-true client e.0 yes) ∙ apart.0)
            | false ↦ λ no. All-cons (IsKeyOf new) e (remove_entry (nat_eq client) keys) (key_kept e own no) (by keys rest apart.1)
          ] refl

-- under a client's key is a slot of the client
pub own_slot : (slots : Slab Slot) (keys : List (ℕ × ℕ)) (client key : ℕ) → All (IsKeyOf slots) keys → lookup (nat_eq client) keys ≡ Some key
    → (slot : Slot) × (get slots key ≡ Some slot) × (slot.client ≡ client)
own_slot slots [] client key each at = absurd (cc)
own_slot slots (e ∷ keys) client key each at =
    let own = All-head (IsKeyOf slots) e keys each in
    elim (nat_eq client e.0) as (λ b. nat_eq client e.0 ≡ b → cond b (Some e.1) (lookup (nat_eq client) keys) ≡ Some key → (slot : Slot) × (get slots key ≡ Some slot) × (slot.client ≡ client)) [
      | true ↦ λ yes found. let one : key ≡ e.1 = cc in (own.0, ap (get slots) one ∙ own.1, own.2 ∙ sym (eqb-true client e.0 yes))
      | false ↦ λ no found. own_slot slots keys client key (All-tail (IsKeyOf slots) e keys each) found
    ] refl at

pub only_own : (slots : Slab Slot) (keys : List (ℕ × ℕ)) (client key : ℕ) → All (IsKeyOf slots) keys → lookup (nat_eq client) keys ≡ Some key → IsOnlyOf slots key client
only_own slots keys client key each at slot is =
    let own = own_slot slots keys client key each at in
    let one : own.0 ≡ slot = cc in
    subst (λ (s : Slot). s.client ≡ client) one own.2

pub never_vacant : (slots : Slab Slot) (keys : List (ℕ × ℕ)) (client key : ℕ) → All (IsKeyOf slots) keys → lookup (nat_eq client) keys ≡ Some key → get slots key ≢ None
never_vacant slots keys client key each at none = let there = (own_slot slots keys client key each at).1 in absurd (cc)

-- what is kept at a place is what is in the slot under the key at this place
pub kept_here : (slots : Slab Slot) (keys : List (ℕ × ℕ)) (place : ℕ) (e : ℕ × ℕ) (slot : Slot) → All (IsKeyOf slots) keys → slice_get keys place ≡ Some e → get slots e.1 ≡ Some slot
    → slice_get (clients_in slots keys) place ≡ Some (e.0, kept_in slot)
kept_here slots [] place e slot each at is = absurd (cc)
kept_here slots (k ∷ keys) zero e slot each at is =
    let one : k ≡ e = cc in
    ap (λ es. slice_get es zero) (clients-head slots k keys (Some slot) (ap (λ (x : ℕ × ℕ). get slots x.1) one ∙ is)) ∙ ap (λ (x : ℕ × ℕ). Some (x.0, kept_in slot)) one
kept_here slots (k ∷ keys) (suc place) e slot each at is =
    let own = All-head (IsKeyOf slots) k keys each in
    ap (λ es. slice_get es (suc place)) (clients-head slots k keys (Some own.0) own.1) ∙ kept_here slots keys place e slot (All-tail (IsKeyOf slots) k keys each) at is

pub none_here : (slots : Slab Slot) (keys : List (ℕ × ℕ)) (place : ℕ) → All (IsKeyOf slots) keys → slice_get keys place ≡ None → slice_get (clients_in slots keys) place ≡ None
none_here slots keys place each none =
    slice_get_past (clients_in slots keys) place (elim (slice_get_cases keys place).1 as (λ x. length (clients_in slots keys) ≤ place) [
      | inl w ↦ let is = w.2 in absurd (cc)
      | inr w ↦ omega (arith, clients_count slots keys each, w.0)
    ])

pub slot_here : (slots : Slab Slot) (keys : List (ℕ × ℕ)) (place : ℕ) (e : ℕ × ℕ) → All (IsKeyOf slots) keys → slice_get keys place ≡ Some e → get slots e.1 ≢ None
slot_here slots keys place e each at none =
    let own = each place e (slice_get_within keys place e at) in
    let one : get slots e.1 ≡ Some own.0 = ap (λ (x : ℕ × ℕ). get slots x.1) (sym (get_or_from_slice_get keys place e e at)) ∙ own.1 in
    absurd (cc)

-- nothing is ended of a client that has no key
pub end_nothing : (slots : Slab Slot) (keys : List (ℕ × ℕ)) (client : ℕ) → AreLinked keys slots → lookup (nat_eq client) keys ≡ None → without client (clients_in slots keys) ≡ clients_in slots keys
end_nothing slots keys client linked none = without-absent client (clients_in slots keys) (kept_found slots keys client linked.each ∙ ap (kept_at slots) none)

pub same_linked : (slots other : Slab Slot) (keys also : List (ℕ × ℕ)) → also ≡ keys → other.slots ≡ slots.slots → AreLinked keys slots → AreLinked also other
same_linked slots other keys also same values linked = record {
  each = subst (All (IsKeyOf other)) (sym same) (λ k d lt. let own = linked.each k d lt in (own.0, ap (λ vs. slice_index_or vs (let e : ℕ × ℕ = slice_index_or keys k d in e.1) None) values ∙ own.1, own.2));
  apart = subst AreApart (sym same) linked.apart;
  counted = ap (count_by is_some) values ∙ linked.counted ∙ ap length (sym same);
}

-- the session of a client is in the slot under its key
pub session_found : (slots : Slab Slot) (keys : List (ℕ × ℕ)) (client : ℕ) → All (IsKeyOf slots) keys
    → session_of (table_in slots keys) client ≡ option_map (λ k. k.session) (kept_at slots (lookup (nat_eq client) keys))
session_found slots keys client each =
    lookup-map_values (λ (k : SessionWithRoom). k.session) (nat_eq client) (clients_in slots keys) ∙ ap (option_map (λ k. k.session)) (kept_found slots keys client each)

-- a client has a session exactly where it has a key
pub found : (slots : Slab Slot) (keys : List (ℕ × ℕ)) (client : ℕ) → All (IsKeyOf slots) keys
    → is_some (session_of (table_in slots keys) client) ≡ is_some (lookup (nat_eq client) keys)
found slots keys client each = ap is_some (session_found slots keys client each) ∙ by (lookup (nat_eq client) keys) refl
  where
    by : (o : Option ℕ) → lookup (nat_eq client) keys ≡ o → is_some (option_map (λ (k : SessionWithRoom). k.session) (kept_at slots o)) ≡ is_some o
    by None at = refl
    by (Some key) at = ap (λ s. is_some (option_map (λ (k : SessionWithRoom). k.session) (option_map kept_in s))) (own_slot slots keys client key each at).1

none_of : {X : Type 0} (o : Option X) → is_some o ≡ false → o ≡ None
none_of None is = refl
none_of (Some x) is = absurd (cc)

pub no_session : (slots : Slab Slot) (keys : List (ℕ × ℕ)) (client : ℕ) → All (IsKeyOf slots) keys → is_some (lookup (nat_eq client) keys) ≡ false → session_of (table_in slots keys) client ≡ None
no_session slots keys client each none = none_of (session_of (table_in slots keys) client) (found slots keys client each ∙ none)

pub no_key_of : (slots : Slab Slot) (keys : List (ℕ × ℕ)) (client : ℕ) → All (IsKeyOf slots) keys → session_of (table_in slots keys) client ≡ None → lookup (nat_eq client) keys ≡ None
no_key_of slots keys client each none = none_of (lookup (nat_eq client) keys) (sym (found slots keys client each) ∙ ap is_some none)

pub sessions_count : (slots : Slab Slot) (keys : List (ℕ × ℕ)) → All (IsKeyOf slots) keys → length (sessions_of (table_in slots keys)) ≡ length keys
sessions_count slots keys each = length-map (clients_in slots keys) (λ (e : ℕ × SessionWithRoom). (e.0, e.1.session)) ∙ clients_count slots keys each

-- what is kept of a client whose key and slot are known
pub kept_is : (slots : Slab Slot) (keys : List (ℕ × ℕ)) (client key : ℕ) (slot : Slot) → All (IsKeyOf slots) keys
    → lookup (nat_eq client) keys ≡ Some key → get slots key ≡ Some slot → lookup (nat_eq client) (clients_in slots keys) ≡ Some (kept_in slot)
kept_is slots keys client key slot each at here = kept_found slots keys client each ∙ ap (kept_at slots) at ∙ ap (option_map kept_in) here

pub nothing_kept : (slots : Slab Slot) (keys : List (ℕ × ℕ)) (client : ℕ) → All (IsKeyOf slots) keys → lookup (nat_eq client) keys ≡ None → lookup (nat_eq client) (clients_in slots keys) ≡ None
nothing_kept slots keys client each none = kept_found slots keys client each ∙ ap (kept_at slots) none

-- a change of a slot leaves as many
slab_len-with_value : (slots : Slab Slot) (key : ℕ) (was now : Slot) → get slots key ≡ Some was → slab_len (with_value slots key now) ≡ slab_len slots
slab_len-with_value slots key was now here = grind (arith, common_steps)

-- the change of a slot that a look-up lends
module _ (slots : Slab Slot) (keys : List (ℕ × ℕ)) (client key : ℕ) (was now : Slot) (linked : AreLinked keys slots)
    (at : lookup (nat_eq client) keys ≡ Some key) (here : get slots key ≡ Some was) where
  wrote : Updates slots (with_value slots key now) key (Some now)
  wrote = Updates-with_value slots key now (ap is_some here)

  pub lent_linked : now.client ≡ was.client → AreLinked keys (with_value slots key now)
  lent_linked same = write_linked slots (with_value slots key now) client key (Some now) (only_own slots keys client key linked.each at) wrote was now refl here same
      (slab_len-with_value slots key was now here) keys linked at

  -- a table of what was kept before
  module _ (before : Table) (view : clients_in slots keys ≡ before.clients) where
    pub lent_clients : (f : Session → Session) → (kept_in now).session ≡ f (kept_in was).session
        → clients_in (with_value slots key now) keys ≡ changed client (moved f (kept_in now).room) before.clients
    lent_clients f is =
        write_clients slots (with_value slots key now) client key (Some now) (only_own slots keys client key linked.each at) wrote (moved f (kept_in now).room) was now refl here
        (ap (λ s. record { session = s; room = (kept_in now).room }) (sym is)) keys linked at
        ∙ ap (changed client (moved f (kept_in now).room)) view

    pub lent_kept : lookup (nat_eq client) before.clients ≡ Some (kept_in was)
    lent_kept = ap (lookup (nat_eq client)) (sym view) ∙ kept_is slots keys client key was linked.each at here
