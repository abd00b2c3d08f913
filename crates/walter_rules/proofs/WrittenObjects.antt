-- The objects that a transaction writes, as a rising list, are those of its write set; and those that are preferred
-- at a site are kept by a test.
use Rattle.std.proofs.Common.{◌≡◌, ◌<◌, true, false, ◌&&◌, nat_lt, nat_eq, List, [], ◌∷◌, refl, sym, subst, inl, inr, ◌⊎◌}
use Rattle.std.specs.Prelude.{Contains}
use Rattle.std.proofs.lemmas.Bool.{or_left, or_right, cases_Bool, cases_order, eq-eqb, lt-ltb, both_ways}
use Rattle.walter_base.specs.declared.catalog.Catalog.{Catalog}
use Rattle.walter_base.specs.declared.names.ObjId.{ObjId}
use Rattle.walter_base.specs.declared.names.SiteId.{SiteId}
use Rattle.walter_base.specs.declared.update.Update.{Update}
use Rattle.walter_base.specs.Names.{same_site}
use Rattle.walter_base.specs.Values.{write_set}
use Rattle.walter_base.proofs.NameTests.{same_site-true, same_site_refl}
use Rattle.walter_psi.proofs.Lists.{Contains-nil, Contains-one}
use Rattle.walter_rules.specs.Knowledge.{Knowledge, preferred}
use Rattle.walter_rules.specs.Objects.{precedes, with_object, rising, objects_of, objects_at, are_local}
use Rattle.walter_rules.proofs.Membership.{first_in, later_in, in_cases, each_passes, kept_from, is_kept}

-- an object comes before another one of its container that has a greater number
comes_before : (a b : ObjId) → a.container ≡ b.container → a.local < b.local → precedes a b ≡ true
comes_before a b same less =
    or_right (nat_lt a.container b.container) (nat_eq a.container b.container && nat_lt a.local b.local)
    (rw (eq-eqb a.container b.container same, lt-ltb a.local b.local less) refl)

-- and before one of a later container
container_before : (a b : ObjId) → a.container < b.container → precedes a b ≡ true
container_before a b less = or_left (nat_lt a.container b.container)
    (nat_eq a.container b.container && nat_lt a.local b.local) (lt-ltb a.container b.container less)

-- two objects of which neither comes before the other are one
pub one_object : (a b : ObjId) → precedes a b ≡ false → precedes b a ≡ false → a ≡ b
one_object a b first second =
    let same : a.container ≡ b.container = elim (cases_order a.container b.container) [
      | inl equal ↦ equal
      | inr (inl less) ↦ absurd (both_ways (precedes a b) first (container_before a b less))
      | inr (inr more) ↦ absurd (both_ways (precedes b a) second (container_before b a more))
    ] in
    let number : a.local ≡ b.local = elim (cases_order a.local b.local) [
      | inl equal ↦ equal
      | inr (inl less) ↦ absurd (both_ways (precedes a b) first (comes_before a b same less))
      | inr (inr more) ↦ absurd (both_ways (precedes b a) second (comes_before b a (sym same) more))
    ] in
    λ t. record { container = same t; local = number t }

-- the one more object is among them
in_with : (oid : ObjId) (os : List ObjId) → Contains (with_object oid os) oid
in_with oid [] = first_in oid []
in_with oid (o ∷ os) = elim (cases_Bool (precedes oid o)) [
  | inl before ↦ rw before (first_in oid (o ∷ os))
  | inr first ↦ elim (cases_Bool (precedes o oid)) [
    | inl behind ↦ rw (first, behind) (later_in o (with_object oid os) oid (in_with oid os))
    | inr second ↦ rw (first, second) (subst (λ z. Contains (o ∷ os) z) (one_object o oid second first) (first_in o os))
  ]
]

-- and so are the others
kept_with : (oid : ObjId) (os : List ObjId) (x : ObjId) → Contains os x → Contains (with_object oid os) x
kept_with oid [] x within = absurd (Contains-nil x within)
kept_with oid (o ∷ os) x within = elim (cases_Bool (precedes oid o)) [
  | inl before ↦ rw before (later_in oid (o ∷ os) x within)
  | inr first ↦ elim (cases_Bool (precedes o oid)) [
    | inl behind ↦ rw (first, behind) (elim (in_cases o os x within) [
      | inl here ↦ subst (λ z. Contains (o ∷ with_object oid os) z) here (first_in o (with_object oid os))
      | inr there ↦ later_in o (with_object oid os) x (kept_with oid os x there)
    ])
    | inr second ↦ rw (first, second) within
  ]
]

-- there is no other
with_from : (oid : ObjId) (os : List ObjId) (x : ObjId) → Contains (with_object oid os) x → (oid ≡ x) ⊎ Contains os x
with_from oid [] x within = inl (Contains-one oid x within)
with_from oid (o ∷ os) x within = elim (cases_Bool (precedes oid o)) [
  | inl before ↦ in_cases oid (o ∷ os) x (rw before at within)
  | inr first ↦ elim (cases_Bool (precedes o oid)) [
    | inl behind ↦ elim (in_cases o (with_object oid os) x (rw (first, behind) at within)) [
      | inl here ↦ inr (subst (λ z. Contains (o ∷ os) z) here (first_in o os))
      | inr there ↦ elim (with_from oid os x there) [
        | inl one ↦ inl one
        | inr other ↦ inr (later_in o os x other)
      ]
    ]
    | inr second ↦ inr (rw (first, second) at within)
  ]
]

-- each object of a list is among its rising ones
pub in_rising : (os : List ObjId) (x : ObjId) → Contains os x → Contains (rising os) x
in_rising [] x within = within
in_rising (o ∷ os) x within = elim (in_cases o os x within) [
  | inl here ↦ subst (λ z. Contains (with_object o (rising os)) z) here (in_with o (rising os))
  | inr there ↦ kept_with o (rising os) x (in_rising os x there)
]

-- and no other is
pub rising_from : (os : List ObjId) (x : ObjId) → Contains (rising os) x → Contains os x
rising_from [] x within = within
rising_from (o ∷ os) x within = elim (with_from o (rising os) x within) [
  | inl here ↦ subst (λ z. Contains (o ∷ os) z) here (first_in o os)
  | inr there ↦ later_in o os x (rising_from os x there)
]

module _ (catalog : Catalog) (K : Knowledge) (site : SiteId) (updates : List Update) where
  -- the objects at a site are those of the write set that are preferred there
  pub in_objects_at : (oid : ObjId) → Contains (write_set updates) oid → preferred catalog K oid ≡ site
      → Contains (objects_at catalog K site updates) oid
  in_objects_at oid within here =
      is_kept (λ o. same_site (preferred catalog K o) site) (objects_of updates) oid
      (in_rising (write_set updates) oid within)
      (subst (λ s. same_site (preferred catalog K oid) s ≡ true) here (same_site_refl (preferred catalog K oid)))

  -- and only those
  pub objects_at_from : (oid : ObjId) → Contains (objects_at catalog K site updates) oid
      → Contains (write_set updates) oid × (preferred catalog K oid ≡ site)
  objects_at_from oid within =
      let parts = kept_from (λ o. same_site (preferred catalog K o) site) (objects_of updates) oid within in
      (rising_from (write_set updates) oid parts.0, same_site-true (preferred catalog K oid) site parts.1)

  -- where all objects are local, each is preferred at the site
  pub local_at : are_local catalog K site updates ≡ true → (oid : ObjId) → Contains (write_set updates) oid
      → preferred catalog K oid ≡ site
  local_at all oid within =
      same_site-true (preferred catalog K oid) site
      (each_passes (λ o. same_site (preferred catalog K o) site) (objects_of updates) oid all
      (in_rising (write_set updates) oid within))
