-- The stamps of a right trail, and how many records it may have had.
use Rattle.std.proofs.Common.{◌≡◌, ℕ, ◌+◌, ◌≤◌, ◌⊎◌, Bool, true, false, List, [], ◌∷◌, ◌++◌, length, reverse, slice_get, Option, Some, None, ap, sym, subst, arith, if◌then◌else◌, inl, inr}
use Rattle.std.specs.Prelude.{Contains, IfSome}
use Rattle.std.proofs.lemmas.List.{length-append, reverse-append}
use Rattle.std.proofs.lemmas.List.Elements.{Contains-push_cases}
use Rattle.walter_base.specs.declared.catalog.Catalog.{Catalog}
use Rattle.walter_base.specs.declared.message.Record.{Record}
use Rattle.walter_base.specs.declared.names.SiteId.{SiteId}
use Rattle.walter_base.specs.Names.{same_site}
use Rattle.walter_psi.proofs.Lists.{Contains-nil, contains_at, Contains-flat_map_from, push_induction}
use Rattle.walter_rules.specs.declared.entry.Came.{Came}
use Rattle.walter_rules.specs.declared.entry.Entry.{Entry}
use Rattle.walter_rules.specs.declared.event.Event.{Event}
use Rattle.walter_rules.specs.declared.outcome.Outcome.{Outcome}
use Rattle.walter_rules.specs.declared.outcome.Outcome.TheVariants.{Full}
use Rattle.walter_rules.specs.Layouts.{Layout}
use Rattle.walter_rules.specs.Merges.{Stamped, sent_to, put_out_to}
use Rattle.walter_rules.specs.Sending.{Send}
use Rattle.walter_rules.specs.Standing.{Standing, records_after, settled, flight_after}
use Rattle.walter_rules.specs.Trails.{standing, clock, AreRight, IsFound, Comes, ruled, met_fault, unread, no_memory, full}
use Rattle.walter_rules.proofs.Membership.{given_from}
use Rattle.walter_rules.proofs.Staying.{later_next}

-- ---- stamps

module _ (catalog : Catalog) (layout : Layout) (i : SiteId) where
  -- a trail has no more entries than stamps
  pub length_clock : (older : List Entry) → AreRight catalog layout i older → length older ≤ clock older
  length_clock [] right = omega arith
  length_clock (e ∷ older) right =
      let rest = length_clock older right.0 in
      let next = later_next e.event (clock older) e.stamp right.1.stamp in
      omega (arith, rest, next)

  -- each entry's is at most the last one's
  pub none_later : (trail : List Entry) → AreRight catalog layout i (reverse trail) → (e : Entry) → Contains trail e
      → e.stamp ≤ clock (reverse trail)
  none_later = push_induction
      (λ (trail : List Entry). AreRight catalog layout i (reverse trail) → (e : Entry) → Contains trail e
      → e.stamp ≤ clock (reverse trail))
      (λ right e within. absurd (Contains-nil e within))
      (λ trail last before right e within.
      let turned : reverse (trail ++ last ∷ []) ≡ last ∷ reverse trail = reverse-append trail (last ∷ []) in
      let are : AreRight catalog layout i (last ∷ reverse trail) =
      subst (λ es. AreRight catalog layout i es) turned right in
      let next = later_next last.event (clock (reverse trail)) last.stamp are.1.stamp in
      let now : clock (reverse (trail ++ last ∷ [])) ≡ last.stamp = ap clock turned in
      elim (Contains-push_cases trail last e within) [
        | inl there ↦ let low = before are.0 e there in omega (arith, low, next, now)
        | inr here ↦ let is = ap (λ (x : Entry). x.stamp) here in omega (arith, is, now)
      ])

stamp_in : (same : Bool) (stamp : ℕ) (s : Send) (st : Stamped) → (if same then Some (stamp, s.1) else None) ≡ Some st
    → st.0 ≡ stamp
stamp_in true stamp s st is = let e : (stamp, s.1) ≡ st = cc in ap (λ (x : Stamped). x.0) (sym e)
stamp_in false stamp s st is = absurd cc

-- and so is that of each packet that is put out
pub put_later : (catalog : Catalog) (layout : Layout) (i to : SiteId) (trail : List Entry) (place : ℕ) (st : Stamped)
    → AreRight catalog layout i (reverse trail) → slice_get (put_out_to to trail) place ≡ Some st
    → st.0 ≤ clock (reverse trail)
put_later catalog layout i to trail place st right at =
    let from = Contains-flat_map_from (sent_to to) trail st (contains_at (put_out_to to trail) st place at) in
    let e : Entry = from.0 in
    let given = given_from (λ (s : Send). if same_site s.0 to then Some (e.stamp, s.1) else None) e.came.sends st from.2 in
    let is = stamp_in (same_site given.0.0 to) e.stamp given.0 st given.2 in
    let low = none_later catalog layout i trail right e from.1 in
    omega (arith, is, low)

-- ---- records

-- how many records there are, with the one in flight
abbrev pub flying : Option Record → ℕ
flying None = 0
flying (Some rec) = 1

abbrev pub weight : Standing → ℕ
weight S = length S.records + flying S.flight

pub settled_weight : (catalog : Catalog) (i : SiteId) (S : Standing) (event : Event) (kept : Option Record)
    → IfSome kept (IsFound S event) → weight (settled catalog i kept S) ≤ weight S
settled_weight catalog i S event None found = omega arith
settled_weight catalog i S event (Some rec) found =
    let long = length-append S.records (rec ∷ []) in
    let one = ap flying found.in_flight in
    omega (arith, long, one)

-- a record is stable or in flight, and not both
abbrev IsOne : Came → Type 0
IsOne came = (came.flight ≡ None) ⊎ (came.wrote ≡ None)

is_one : (catalog : Catalog) (layout : Layout) (i : SiteId) (S : Standing) (event : Event) (came : Came)
    → Comes catalog layout i S event came → IsOne came
is_one catalog layout i S event came (ruled fits is) = inl is.flight
is_one catalog layout i S event came (met_fault rec brings fits is) = inr is.wrote
is_one catalog layout i S event came (unread restart down is) = inr is.wrote
is_one catalog layout i S event came (no_memory takes is) = inr is.wrote
is_one catalog layout i S event came (full rec brings less is) = inr is.wrote

wrote_weight : (records : List Record) (old wrote : Option Record) (outcome : Outcome)
    → length (records_after wrote records) + flying (flight_after None wrote outcome old) ≤ length records + flying old + 1
wrote_weight records old None (Full need left) = omega arith
wrote_weight records old None outcome = omega arith
wrote_weight records old (Some rec) outcome =
    let long = length-append records (rec ∷ []) in omega (arith, long)

flew_weight : (records : List Record) (old flight : Option Record) (outcome : Outcome)
    → length records + flying (flight_after flight None outcome old) ≤ length records + flying old + 1
flew_weight records old (Some rec) outcome = omega arith
flew_weight records old None (Full need left) = omega arith
flew_weight records old None outcome = omega arith

came_weight : (records : List Record) (old : Option Record) (came : Came) → IsOne came
    → length (records_after came.wrote records) + flying (flight_after came.flight came.wrote came.outcome old)
    ≤ length records + flying old + 1
came_weight records old came (inl none) =
    subst (λ (f : Option Record). length (records_after came.wrote records)
    + flying (flight_after f came.wrote came.outcome old) ≤ length records + flying old + 1) (sym none)
    (wrote_weight records old came.wrote came.outcome)
came_weight records old came (inr none) =
    subst (λ (w : Option Record). length (records_after w records)
    + flying (flight_after came.flight w came.outcome old) ≤ length records + flying old + 1) (sym none)
    (flew_weight records old came.flight came.outcome)

module _ (catalog : Catalog) (layout : Layout) (i : SiteId) where
  pub weight_few : (older : List Entry) → AreRight catalog layout i older → weight (standing catalog i older) ≤ length older
  weight_few [] right = omega arith
  weight_few (e ∷ older) right =
      let S : Standing = standing catalog i older in
      let T : Standing = settled catalog i e.came.kept S in
      let rest = weight_few older right.0 in
      let kept = settled_weight catalog i S e.event e.came.kept right.1.kept in
      let more = came_weight T.records T.flight e.came (is_one catalog layout i T e.event e.came right.1.comes) in
      omega (arith, rest, kept, more)
