-- The objects of a transaction at a site can be listed: they rise, and are as few as its updates.
use Rattle.std.proofs.Common.{◌≡◌, ◌+◌, ◌≤◌, nat_eq, nat_lt, Bool, true, false, cond, ◌&&◌, List, [], ◌∷◌, length, ◌∙◌, inl, inr, arith}
use Rattle.std.specs.Prelude.{All, Contains, filter}
use Rattle.std.proofs.lemmas.Bool.{cases_Bool, and_parts, eqb-true, ltb-true}
use Rattle.std.proofs.lemmas.List.Elements.{All-nil, All-cons, All-head, All-tail, All-weaker}
use Rattle.std.proofs.lemmas.List.Kept.{AllPairs-cons, AllPairs-filter}
use Rattle.walter_base.specs.declared.catalog.Catalog.{Catalog}
use Rattle.walter_base.specs.declared.names.ObjId.{ObjId}
use Rattle.walter_base.specs.declared.names.SiteId.{SiteId}
use Rattle.walter_base.specs.declared.update.Update.{Update}
use Rattle.walter_base.specs.declared.update.Update.TheVariants.{Write, Add, Del}
use Rattle.walter_base.specs.Names.{same_site, IsBefore, AreRising}
use Rattle.walter_base.specs.Sizes.{CanBeListed}
use Rattle.walter_base.specs.Values.{write_set}
use Rattle.walter_rules.specs.Knowledge.{Knowledge, preferred}
use Rattle.walter_rules.specs.Objects.{precedes, with_object, rising, objects_of, objects_at}
use Rattle.walter_rules.proofs.WrittenObjects.{in_objects_at}

-- objects that rise
abbrev Rises : List ObjId → Type 0
Rises [] = Unit {0}
Rises (o ∷ os) = All (IsBefore o) os × Rises os

risen_pairs : (os : List ObjId) → Rises os → AreRising os
risen_pairs [] rises = λ i j d before within. absurd (omega (arith, within))
risen_pairs (o ∷ os) rises = AllPairs-cons IsBefore o os rises.0 (risen_pairs os rises.1)

comes_before : (a b : ObjId) → precedes a b ≡ true → IsBefore a b
comes_before a b is = elim (cases_Bool (nat_lt a.container b.container)) [
  | inl lower ↦ inl (ltb-true a.container b.container lower)
  | inr none ↦
      let rest : (nat_eq a.container b.container && nat_lt a.local b.local) ≡ true = rw none at is in
      let parts = and_parts (nat_eq a.container b.container) (nat_lt a.local b.local) rest in
      inr (eqb-true a.container b.container parts.0, ltb-true a.local b.local parts.1)
]

before_both : (a b c : ObjId) → IsBefore a b → IsBefore b c → IsBefore a c
before_both a b c first second = elim first [
  | inl lower ↦ elim second [
    | inl next ↦ inl (omega (arith, lower, next))
    | inr next ↦ let same = next.0 in inl (omega (arith, lower, same))
  ]
  | inr at ↦ elim second [
    | inl next ↦ let same = at.0 in inl (omega (arith, next, same))
    | inr next ↦ let low = at.1 in let high = next.1 in inr (at.0 ∙ next.0, omega (arith, low, high))
  ]
]

all_with : (P : ObjId → Type 0) (oid : ObjId) (os : List ObjId) → P oid → All P os → All P (with_object oid os)
all_with P oid [] here all = All-cons P oid [] here all
all_with P oid (o ∷ os) here all = elim (cases_Bool (precedes oid o)) [
  | inl is ↦ rw is (All-cons P oid (o ∷ os) here all)
  | inr none ↦ elim (cases_Bool (precedes o oid)) [
    | inl before ↦ rw (none, before)
        (All-cons P o (with_object oid os) (All-head P o os all) (all_with P oid os here (All-tail P o os all)))
    | inr other ↦ rw (none, other) all
  ]
]

rises_with : (oid : ObjId) (os : List ObjId) → Rises os → Rises (with_object oid os)
rises_with oid [] rises = (All-nil (IsBefore oid), tt)
rises_with oid (o ∷ os) rises = elim (cases_Bool (precedes oid o)) [
  | inl is ↦
      let first = comes_before oid o is in
      rw is (
        All-cons (IsBefore oid) o os first
            (All-weaker (IsBefore o) (IsBefore oid) (λ x later. before_both oid o x first later) os rises.0),
        rises,
      )
  | inr none ↦ elim (cases_Bool (precedes o oid)) [
    | inl before ↦ rw (none, before)
        (all_with (IsBefore o) oid os (comes_before o oid before) rises.0, rises_with oid os rises.1)
    | inr other ↦ rw (none, other) rises
  ]
]

rising_rises : (os : List ObjId) → Rises (rising os)
rising_rises [] = tt
rising_rises (o ∷ os) = rises_with o (rising os) (rising_rises os)

-- and are as few as the updates
long_with : (oid : ObjId) (os : List ObjId) → length (with_object oid os) ≤ length os + 1
long_with oid [] = omega arith
long_with oid (o ∷ os) = elim (cases_Bool (precedes oid o)) [
  | inl is ↦ rw is (omega arith)
  | inr none ↦ elim (cases_Bool (precedes o oid)) [
    | inl before ↦ rw (none, before) (let rest = long_with oid os in omega (arith, rest))
    | inr other ↦ rw (none, other) (omega arith)
  ]
]

long_rising : (os : List ObjId) → length (rising os) ≤ length os
long_rising [] = omega arith
long_rising (o ∷ os) = let rest = long_rising os in let last = long_with o (rising os) in omega (arith, rest, last)

long_written : (updates : List Update) → length (write_set updates) ≤ length updates
long_written [] = omega arith
long_written (Write oid bytes ∷ us) = let rest = long_written us in omega (arith, rest)
long_written (Add oid id ∷ us) = let rest = long_written us in omega (arith, rest)
long_written (Del oid id ∷ us) = let rest = long_written us in omega (arith, rest)

long_kept : (p : ObjId → Bool) (os : List ObjId) → length (filter p os) ≤ length os
long_kept p [] = omega arith
long_kept p (o ∷ os) = let rest = long_kept p os in elim (p o)
    as (λ b. length (cond b (o ∷ filter p os) (filter p os)) ≤ length (o ∷ os)) [
      | true ↦ omega (arith, rest)
      | false ↦ omega (arith, rest)
    ]

some_long : (os : List ObjId) (oid : ObjId) → Contains os oid → 1 ≤ length os
some_long os oid within = let far = within.1 in omega (arith, far)

-- the objects of these updates at a site, where one of them is preferred there
pub objects_listed : (catalog : Catalog) (K : Knowledge) (k : SiteId) (updates : List Update) (oid : ObjId)
    → length updates ≤ 256 → Contains (write_set updates) oid → preferred catalog K oid ≡ k
    → CanBeListed (objects_at catalog K k updates)
objects_listed catalog K k updates oid few within home_is =
    let objects = objects_of updates in
    let here : ObjId → Bool = λ o. same_site (preferred catalog K o) k in
    let kept = long_kept here objects in
    let long = long_rising (write_set updates) in
    let written_ = long_written updates in
    record {
      some = some_long (objects_at catalog K k updates) oid (in_objects_at catalog K k updates oid within home_is);
      few = omega (arith, few, kept, long, written_);
      rising = AllPairs-filter IsBefore here objects (risen_pairs objects (rising_rises (write_set updates)));
    }
