-- What follows where what is kept of one client changes, and what is kept of each other stays.
use Rattle.std.proofs.Common.{◌≡◌, ℕ, ◌+◌, ◌≤◌, Bool, true, false, cond, nat_eq, List, [], ◌∷◌, ◌++◌, map, Option, Some, None, refl, ap, sym, ◌∙◌, subst, arith, option_map, Result, Ok, Err, IsOk, OnOk, OnSome, if◌then◌else◌}
use Rattle.std.specs.Prelude.{slice_get}
use Rattle.std.specs.Option.{option_map_or}
use Rattle.std.specs.Map.{lookup}
use Rattle.std.proofs.lemmas.Bool.{eqb-true}
use Rattle.std.proofs.lemmas.Option.{slice_get-map}
use Rattle.walter_base.specs.ByClient.{changed, without}
use Rattle.walter_base.proofs.ByClient.{lookup-changed_into, lookup-without, seen-changed as changed_in_view}
use Rattle.walter_rules.specs.Sessions.{Session}
use Rattle.walter_session.specs.Sessions.{SessionWithRoom, Table, room_of}

abbrev pub kept_of : Table → ℕ → Option SessionWithRoom
kept_of table client = lookup (nat_eq client) table.clients

abbrev pub room_in : Option SessionWithRoom → ℕ
room_in kept = option_map_or (λ k. k.room) kept 0

-- what is kept, as it is seen
abbrev pub seen_of : List (ℕ × SessionWithRoom) → List (ℕ × Session)
seen_of clients = map (λ e. (e.0, e.1.session)) clients

-- what is seen at a place
pub seen_at : (clients : List (ℕ × SessionWithRoom)) (place : ℕ) (kept : Option (ℕ × SessionWithRoom)) → slice_get clients place ≡ kept → slice_get (seen_of clients) place ≡ option_map (λ e. (e.0, e.1.session)) kept
seen_at clients place kept at = slice_get-map (λ (e : ℕ × SessionWithRoom). (e.0, e.1.session)) clients place ∙ ap (option_map (λ e. (e.0, e.1.session))) at

-- another session with this room
abbrev pub moved : (Session → Session) → ℕ → SessionWithRoom → SessionWithRoom
moved f room kept = record { session = f kept.session; room = room }

pub seen-changed : (client room : ℕ) (f : Session → Session) (clients : List (ℕ × SessionWithRoom)) → seen_of (changed client (moved f room) clients) ≡ changed client f (seen_of clients)
seen-changed client room f clients = changed_in_view (λ (k : SessionWithRoom). k.session) client (moved f room) f clients (λ k. refl)

-- what is kept of the client is this now
pub record Sets (old new : Table) (client : ℕ) (kept : Option SessionWithRoom) : Type 0 where
  pub at : (other : ℕ) → kept_of new other ≡ (if nat_eq client other then kept else kept_of old other)

pub changed_sets : (old new : Table) (client : ℕ) (f : SessionWithRoom → SessionWithRoom) (was : SessionWithRoom) → new.clients ≡ changed client f old.clients → kept_of old client ≡ Some was → Sets old new client (Some (f was))
changed_sets old new client f was are here = record {
  at = λ other. ap (lookup (nat_eq other)) are ∙ lookup-changed_into client other f (f was) old.clients (ap (option_map f) here);
}

pub without_sets : (old new : Table) (client : ℕ) → new.clients ≡ without client old.clients → Sets old new client None
without_sets old new client are = record { at = λ other. ap (lookup (nat_eq other)) are ∙ lookup-without client other old.clients }

-- one that starts has no room
pub rooms_behind : (old new : Table) (client : ℕ) (kept : SessionWithRoom) → new.clients ≡ old.clients ++ (client, kept) ∷ [] → kept.room ≡ 0 → (other : ℕ) → room_of new other ≡ room_of old other
rooms_behind old new client kept are none other = ap (λ es. room_in (lookup (nat_eq other) es)) are ∙ by old.clients
  where
    by : (es : List (ℕ × SessionWithRoom)) → room_in (lookup (nat_eq other) (es ++ (client, kept) ∷ [])) ≡ room_in (lookup (nat_eq other) es)
    by [] = elim (nat_eq other client) as (λ b. room_in (cond b (Some kept) None) ≡ 0) [ true ↦ none | false ↦ refl ]
    by (e ∷ es) = elim (nat_eq other e.0) as (λ b. room_in (cond b (Some e.1) (lookup (nat_eq other) (es ++ (client, kept) ∷ []))) ≡ room_in (cond b (Some e.1) (lookup (nat_eq other) es))) [
      | true ↦ refl
      | false ↦ by es
    ]

inside : {X : Type 0} (f : Option SessionWithRoom → X) (b : Bool) (kept held : Option SessionWithRoom) → f (if b then kept else held) ≡ (if b then f kept else f held)
inside f true kept held = refl
inside f false kept held = refl

module _ (old new : Table) (client : ℕ) (kept : Option SessionWithRoom) (sets : Sets old new client kept) where
  pub rooms : (other : ℕ) → room_of new other ≡ (if nat_eq client other then room_in kept else room_of old other)
  rooms other = ap room_in (sets.at other) ∙ inside room_in (nat_eq client other) kept (kept_of old other)

  pub rooms_more : room_of old client ≤ room_in kept → (other : ℕ) → room_of old other ≤ room_of new other
  rooms_more more other = subst (λ n. room_of old other ≤ n) (sym (rooms other)) (elim (nat_eq client other) as (λ b. nat_eq client other ≡ b → room_of old other ≤ (if b then room_in kept else room_of old other)) [
    | true ↦ λ b. subst (λ o. room_of old o ≤ room_in kept) (eqb-true client other b) more
    | false ↦ λ b. omega arith
  ] refl)

  pub rooms_same : room_in kept ≡ room_of old client → (other : ℕ) → room_of new other ≡ room_of old other
  rooms_same is other = rooms other ∙ (elim (nat_eq client other) as (λ b. nat_eq client other ≡ b → (if b then room_in kept else room_of old other) ≡ room_of old other) [
    | true ↦ λ b. is ∙ ap (room_of old) (eqb-true client other b)
    | false ↦ λ b. refl
  ] refl)

  pub rooms_less : room_in kept + 1 ≡ room_of old client → (other : ℕ) → room_of new other + (if nat_eq client other then 1 else 0) ≡ room_of old other
  rooms_less is other = ap (λ n. n + (if nat_eq client other then 1 else 0)) (rooms other) ∙ (elim (nat_eq client other) as (λ b. nat_eq client other ≡ b → (if b then room_in kept else room_of old other) + (if b then 1 else 0) ≡ room_of old other) [
    | true ↦ λ b. is ∙ ap (room_of old) (eqb-true client other b)
    | false ↦ λ b. omega arith
  ] refl)

pub from_ok : {T E : Type 0} (r : Result T E) (P : Type 0) → IsOk r → OnOk r P → P
from_ok (Ok x) P is p = p
from_ok (Err e) P is p = absurd (cc)

pub given_ok : {T E : Type 0} (r : Result T E) (P Q : Type 0) → (P → Q) → OnOk r P → OnOk r Q
given_ok (Ok x) P Q f p = f p
given_ok (Err e) P Q f p = tt

pub from_some : {T : Type 0} (o : Option T) (x : T) (P : Type 0) → o ≡ Some x → OnSome o P → P
from_some (Some y) x P is p = p
from_some None x P is p = absurd (cc)
