-- The numbers that are over, where those of one coordinator change.
use Rattle.std.proofs.Common.{◌≡◌, ◌<◌, ◌≤◌, ℕ, Bool, true, false, nat_eq, ◌&&◌, ◌||◌, List, [], All, length, set, slice_get, Option, Some, inl, inr, refl, ap, sym, ◌∙◌, subst, arith, if◌then◌else◌}
use Rattle.std.specs.Option.{option_map_or}
use Rattle.std.proofs.lemmas.Bool.{eqb-true, eqb-false, eq-eqb}
use Rattle.std.proofs.lemmas.List.{length-set, get_or-set_same, get_or-set_other}
use Rattle.std.proofs.lemmas.Option.{slice_get-get_or, slice_get_past, slice_get_within, slice_get_cases}
use Rattle.walter_base.specs.declared.names.SiteId.{SiteId}
use Rattle.walter_locks.specs.Intervals.{Numbers, is_among}
use Rattle.walter_locks.specs.Parts.{is_dead, room_of}

-- what stands at a place, after a write
got_set : (xs : List Numbers) (i k : ℕ) (v : Numbers) → i < length xs → slice_get (set xs i v) k ≡ (if nat_eq i k then Some v else slice_get xs k)
got_set xs i k v within = elim (nat_eq i k) as (λ b. nat_eq i k ≡ b → slice_get (set xs i v) k ≡ (if b then Some v else slice_get xs k)) [
  | true ↦ λ same. subst (λ m. slice_get (set xs i v) m ≡ Some v) (eqb-true i k same)
      (slice_get-get_or (set xs i v) i v (omega (arith, within, length-set xs i v)) ∙ ap (λ x. Some x) (get_or-set_same xs i v v within))
  | false ↦ λ apart. elim (slice_get_cases xs k).1 [
    | inl w ↦ slice_get-get_or (set xs i v) k v (omega (arith, w.1, length-set xs i v)) ∙ ap (λ x. Some x) (get_or-set_other xs i k v v (λ e. eqb-false i k apart (sym e))) ∙ sym (slice_get-get_or xs k v w.1)
    | inr w ↦ slice_get_past (set xs i v) k (omega (arith, w.0, length-set xs i v)) ∙ sym (slice_get_past xs k w.0)
  ]
] refl

inside : {X Y : Type 0} (f : X → Y) (d : Y) (b : Bool) (x : X) (o : Option X) → option_map_or f (if b then Some x else o) d ≡ (if b then f x else option_map_or f o d)
inside f d true x o = refl
inside f d false x o = refl

module _ (dead : List Numbers) (place : ℕ) (was now : Numbers) (here : slice_get dead place ≡ Some was) where
  dead_set : (j : SiteId) (n : ℕ) → is_dead (set dead place now) j n ≡ (if nat_eq place j.0 then is_among n now.intervals else is_dead dead j n)
  dead_set j n = ap (λ o. option_map_or (λ (d : Numbers). is_among n d.intervals) o false) (got_set dead place j.0 now (slice_get_within dead place was here))
      ∙ inside (λ (d : Numbers). is_among n d.intervals) false (nat_eq place j.0) now (slice_get dead j.0)

  room_set : (k : ℕ) → room_of (set dead place now) k ≡ (if nat_eq place k then now.room else room_of dead k)
  room_set k = ap (λ o. option_map_or (λ (d : Numbers). d.room) o 0) (got_set dead place k now (slice_get_within dead place was here))
      ∙ inside (λ (d : Numbers). d.room) 0 (nat_eq place k) now (slice_get dead k)

  dead_here : (j : SiteId) (n : ℕ) → nat_eq place j.0 ≡ true → is_dead dead j n ≡ is_among n was.intervals
  dead_here j n same = subst (λ k. option_map_or (λ (d : Numbers). is_among n d.intervals) (slice_get dead k) false ≡ is_among n was.intervals) (eqb-true place j.0 same) (ap (λ o. option_map_or (λ (d : Numbers). is_among n d.intervals) o false) here)

  pub room_here : room_of dead place ≡ was.room
  room_here = ap (λ o. option_map_or (λ (d : Numbers). d.room) o 0) here

  -- one more number of the coordinator
  pub dead_marked : (slow : ℕ) → ((n : ℕ) → is_among n now.intervals ≡ (nat_eq slow n || is_among n was.intervals)) → (j : SiteId) (n : ℕ)
      → is_dead (set dead place now) j n ≡ ((nat_eq place j.0 && nat_eq slow n) || is_dead dead j n)
  dead_marked slow given j n = dead_set j n ∙ (elim (nat_eq place j.0) as (λ b. nat_eq place j.0 ≡ b → (if b then is_among n now.intervals else is_dead dead j n) ≡ ((b && nat_eq slow n) || is_dead dead j n)) [
    | true ↦ λ same. given n ∙ ap (λ d. nat_eq slow n || d) (sym (dead_here j n same))
    | false ↦ λ apart. refl
  ] refl)

  pub room_elsewhere : (k : ℕ) → nat_eq place k ≡ false → room_of (set dead place now) k ≡ room_of dead k
  room_elsewhere k apart = room_set k ∙ ap (λ b. if b then now.room else room_of dead k) apart

  pub sites_kept : length (set dead place now) ≡ length dead
  sites_kept = length-set dead place now

  -- the same numbers, with more room
  pub dead_kept : now.intervals ≡ was.intervals → (j : SiteId) (n : ℕ) → is_dead (set dead place now) j n ≡ is_dead dead j n
  dead_kept same j n = dead_set j n ∙ (elim (nat_eq place j.0) as (λ b. nat_eq place j.0 ≡ b → (if b then is_among n now.intervals else is_dead dead j n) ≡ is_dead dead j n) [
    | true ↦ λ is. ap (is_among n) same ∙ sym (dead_here j n is)
    | false ↦ λ is. refl
  ] refl)

  pub room_grown : was.room ≤ now.room → (k : ℕ) → room_of dead k ≤ room_of (set dead place now) k
  room_grown more k = subst (λ r. room_of dead k ≤ r) (sym (room_set k)) (elim (nat_eq place k) as (λ b. nat_eq place k ≡ b → room_of dead k ≤ (if b then now.room else room_of dead k)) [
    | true ↦ λ is. subst (λ m. room_of dead m ≤ now.room) (eqb-true place k is) (omega (arith, room_here, more))
    | false ↦ λ is. omega arith
  ] refl)

  pub room_now : room_of (set dead place now) place ≡ now.room
  room_now = room_set place ∙ ap (λ b. if b then now.room else room_of dead place) (eq-eqb place place refl)

-- where no site has an interval, no number is over
pub none_over : (dead : List Numbers) → All (λ (d : Numbers). d.intervals ≡ []) dead → (j : SiteId) (n : ℕ) → is_dead dead j n ≡ false
none_over dead none j n = elim (slice_get_cases dead j.0).1 [
  | inl w ↦ ap (λ o. option_map_or (λ (d : Numbers). is_among n d.intervals) o false) w.2
      ∙ ap (is_among n) (subst (λ (d : Numbers). d.intervals ≡ []) w.3 (none j.0 w.0 w.1))
  | inr w ↦ ap (λ o. option_map_or (λ (d : Numbers). is_among n d.intervals) o false) (slice_get_past dead j.0 w.0)
]
