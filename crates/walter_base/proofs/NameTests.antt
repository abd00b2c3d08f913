-- Tests on names are true exactly at equal names.
use Rattle.std.proofs.Common.{◌≡◌, ◌≢◌, ℕ, Bool, true, false, nat_eq, ◌&&◌, refl, ap}
use Rattle.std.proofs.lemmas.Bool.{eqb-true, eq-eqb}
use Rattle.walter_base.specs.declared.names.ObjId.{ObjId}
use Rattle.walter_base.specs.declared.names.SiteId.{SiteId}
use Rattle.walter_base.specs.declared.names.Tid.{Tid}
use Rattle.walter_base.specs.Names.{same_site, same_object, same_tid}

-- what a conjunction that is true tells
pub both : (a b : Bool) → (a && b) ≡ true → (a ≡ true) × (b ≡ true)
both true b h = (refl, h)
both false b h = absurd (cc)

pub same_site-true : (a b : SiteId) → same_site a b ≡ true → a ≡ b
same_site-true a b h = ap (λ (n : ℕ). record { 0 = n }) (eqb-true a.0 b.0 h)

pub same_site_refl : (a : SiteId) → same_site a a ≡ true
same_site_refl a = eq-eqb a.0 a.0 refl

pub same_object-true : (a b : ObjId) → same_object a b ≡ true → a ≡ b
same_object-true a b h =
    let parts = both (nat_eq a.container b.container) (nat_eq a.local b.local) h in
    let c = eqb-true a.container b.container parts.0 in
    let l = eqb-true a.local b.local parts.1 in
    (λ i. record { container = c i; local = l i })

pub same_object_refl : (a : ObjId) → same_object a a ≡ true
same_object_refl a = rw (eq-eqb a.container a.container refl, eq-eqb a.local a.local refl) refl

pub same_tid-true : (a b : Tid) → same_tid a b ≡ true → a ≡ b
same_tid-true a b h =
    let sites = both (same_site a.site b.site) (nat_eq a.epoch b.epoch && nat_eq a.number b.number) h in
    let rest = both (nat_eq a.epoch b.epoch) (nat_eq a.number b.number) sites.1 in
    let s = same_site-true a.site b.site sites.0 in
    let e = eqb-true a.epoch b.epoch rest.0 in
    let n = eqb-true a.number b.number rest.1 in
    (λ i. record { site = s i; epoch = e i; number = n i })

pub same_tid_refl : (a : Tid) → same_tid a a ≡ true
same_tid_refl a = rw (eq-eqb a.site.0 a.site.0 refl, eq-eqb a.epoch a.epoch refl, eq-eqb a.number a.number refl) refl

-- two names that differ have a false test
pub same_tid-false : (a b : Tid) → a ≢ b → same_tid a b ≡ false
same_tid-false a b apart = elim (same_tid a b) as (λ t. same_tid a b ≡ t → t ≡ false) [
  | true ↦ λ is. absurd (apart (same_tid-true a b is))
  | false ↦ λ is. refl
] refl
