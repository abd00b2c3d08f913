-- The locks that have an object, where a lock is put behind the others or goes.
use Rattle.std.proofs.Common.{◌≡◌, Bool, true, false, cond, nat_eq, List, [], ◌∷◌, ◌++◌, Option, Some, None, refl, ap, sym, ◌∙◌, subst, if◌then◌else◌}
use Rattle.std.specs.Map.{lookup, remove_entry}
use Rattle.std.proofs.lemmas.Bool.{eqb-true, eq-eqb}
use Rattle.walter_base.specs.declared.names.ObjId.{ObjId}
use Rattle.walter_base.specs.declared.names.Tid.{Tid}
use Rattle.walter_base.specs.Names.{same_site}
use Rattle.walter_base.proofs.NameTests.{both, same_site-true, same_site_refl}
use Rattle.walter_locks.specs.declared.lock.Lock.{Lock}
use Rattle.walter_locks.specs.declared.lock.SlowId.{SlowId}
use Rattle.walter_locks.specs.Parts.{same_slow, owner_in, AreSingle}
use Rattle.walter_rules.specs.Slow.{has_object}

pub same_slow-true : (a b : SlowId) → same_slow a b ≡ true → a ≡ b
same_slow-true a b h =
    let parts = both (same_site a.coordinator b.coordinator) (nat_eq a.slow b.slow) h in
    let c = same_site-true a.coordinator b.coordinator parts.0 in
    let s = eqb-true a.slow b.slow parts.1 in
    (λ i. record { coordinator = c i; slow = s i })

pub same_slow_refl : (a : SlowId) → same_slow a a ≡ true
same_slow_refl a = rw (same_site_refl a.coordinator, eq-eqb a.slow a.slow refl) refl

turned : (a b : SlowId) → same_slow a b ≡ false → same_slow b a ≡ false
turned a b apart = elim (same_slow b a) as (λ t. same_slow b a ≡ t → t ≡ false) [
  | true ↦ λ is. let yes = subst (λ c. same_slow c b ≡ true) (same_slow-true b a is) (same_slow_refl b) in absurd (cc)
  | false ↦ λ is. refl
] refl

no_head : (b : Bool) (x : Lock) (o : Option Lock) → cond b (Some x) o ≡ None → (b ≡ false) × (o ≡ None)
no_head true x o is = absurd (cc)
no_head false x o is = (refl, is)

pub no_owner : (b : Bool) (tid : Tid) (o : Option Tid) → (if b then Some tid else o) ≡ None → (b ≡ false) × (o ≡ None)
no_owner true tid o is = absurd (cc)
no_owner false tid o is = (refl, is)

-- one more lock, of a slow commit that has none and of objects that have no owner
module _ (key : SlowId) (l : Lock) where
  pub owner_behind : (es : List (SlowId × Lock)) (oid : ObjId) → (has_object oid l.objects ≡ true → owner_in es oid ≡ None)
      → owner_in (es ++ (key, l) ∷ []) oid ≡ (if has_object oid l.objects then Some l.owner else owner_in es oid)
  owner_behind [] oid free = refl
  owner_behind (e ∷ es) oid free =
      elim (has_object oid e.1.objects) as (λ b. (has_object oid l.objects ≡ true → (if b then Some e.1.owner else owner_in es oid) ≡ None)
      → (if b then Some e.1.owner else owner_in (es ++ (key, l) ∷ []) oid) ≡ (if has_object oid l.objects then Some l.owner else (if b then Some e.1.owner else owner_in es oid))) [
        | true ↦ λ free. elim (has_object oid l.objects) as (λ h. (h ≡ true → Some e.1.owner ≡ None) → Some e.1.owner ≡ (if h then Some l.owner else Some e.1.owner)) [
          | true ↦ λ free. let no = free refl in absurd (cc)
          | false ↦ λ free. refl
        ] free
        | false ↦ λ free. owner_behind es oid free
      ] free

  lookup_behind : (test : SlowId → Bool) (es : List (SlowId × Lock)) → lookup test es ≡ None → test key ≡ false → lookup test (es ++ (key, l) ∷ []) ≡ None
  lookup_behind test [] none fails = ap (λ b. cond b (Some l) None) fails
  lookup_behind test (e ∷ es) none fails =
      let parts = no_head (test e.0) e.1 (lookup test es) none in
      ap (λ b. cond b (Some e.1) (lookup test (es ++ (key, l) ∷ []))) parts.0 ∙ lookup_behind test es parts.1 fails

  pub single_behind : (es : List (SlowId × Lock)) → AreSingle es → lookup (same_slow key) es ≡ None
      → ((oid : ObjId) → has_object oid l.objects ≡ true → owner_in es oid ≡ None) → AreSingle (es ++ (key, l) ∷ [])
  single_behind [] single none free = (refl, (λ oid h. refl), tt)
  single_behind (e ∷ es) single none free =
      let parts = no_head (same_slow key e.0) e.1 (lookup (same_slow key) es) none in (
        lookup_behind (same_slow e.0) es single.0 (turned key e.0 parts.0),
        (λ oid has. owner_behind es oid (λ also. (no_owner (has_object oid e.1.objects) e.1.owner (owner_in es oid) (free oid also)).1) ∙ (elim (has_object oid l.objects) as (λ h. has_object oid l.objects ≡ h → (if h then Some l.owner else owner_in es oid) ≡ None) [
          | true ↦ λ also. let no = (no_owner (has_object oid e.1.objects) e.1.owner (owner_in es oid) (free oid also)).0 in absurd (cc)
          | false ↦ λ also. single.1 oid has
        ] refl)),
        single_behind es single.2 parts.1 (λ oid also. (no_owner (has_object oid e.1.objects) e.1.owner (owner_in es oid) (free oid also)).1),
      )

-- a lock that is found is that of the owner of each of its objects
pub owner_found : (key : SlowId) (l : Lock) (es : List (SlowId × Lock)) (oid : ObjId) → AreSingle es → lookup (same_slow key) es ≡ Some l → has_object oid l.objects ≡ true
    → owner_in es oid ≡ Some l.owner
owner_found key l [] oid single at has = absurd (cc)
owner_found key l (e ∷ es) oid single at has = elim (same_slow key e.0) as (λ b. cond b (Some e.1) (lookup (same_slow key) es) ≡ Some l → (if has_object oid e.1.objects then Some e.1.owner else owner_in es oid) ≡ Some l.owner) [
  | true ↦ λ at.
      let one : l ≡ e.1 = cc in
      let here = subst (λ (m : Lock). has_object oid m.objects ≡ true) one has in
      ap (λ b. if b then Some e.1.owner else owner_in es oid) here ∙ ap (λ (m : Lock). Some m.owner) (sym one)
  | false ↦ λ at.
      let rest = owner_found key l es oid single.2 at has in
      elim (has_object oid e.1.objects) as (λ b. has_object oid e.1.objects ≡ b → (if b then Some e.1.owner else owner_in es oid) ≡ Some l.owner) [
        | true ↦ λ here. let no = single.1 oid here in absurd (cc)
        | false ↦ λ here. rest
      ] refl
] at

-- an owner's lock is found
pub lock_found : (es : List (SlowId × Lock)) (oid : ObjId) (tid : Tid) → AreSingle es → owner_in es oid ≡ Some tid
    → (key : SlowId) × (l : Lock) × (lookup (same_slow key) es ≡ Some l) × (l.owner ≡ tid) × (has_object oid l.objects ≡ true)
lock_found [] oid tid single is = absurd (cc)
lock_found (e ∷ es) oid tid single is = elim (has_object oid e.1.objects) as (λ b. has_object oid e.1.objects ≡ b → (if b then Some e.1.owner else owner_in es oid) ≡ Some tid
    → (key : SlowId) × (l : Lock) × (lookup (same_slow key) (e ∷ es) ≡ Some l) × (l.owner ≡ tid) × (has_object oid l.objects ≡ true)) [
      | true ↦ λ here is. (e.0, e.1, ap (λ b. cond b (Some e.1) (lookup (same_slow e.0) es)) (same_slow_refl e.0), (cc), here)
      | false ↦ λ here is.
          let rest = lock_found es oid tid single.2 is in (
            rest.0,
            rest.1,
            (elim (same_slow rest.0 e.0) as (λ b. same_slow rest.0 e.0 ≡ b → cond b (Some e.1) (lookup (same_slow rest.0) es) ≡ Some rest.1) [
              | true ↦ λ same. let none = subst (λ k. lookup (same_slow k) es ≡ None) (sym (same_slow-true rest.0 e.0 same)) single.0 in let some = rest.2 in absurd (cc)
              | false ↦ λ same. rest.2
            ] refl),
            rest.3,
            rest.4,
          )
    ] refl is

-- two locks that have an object are one
pub one_lock : (a b : SlowId) (l m : Lock) (es : List (SlowId × Lock)) (oid : ObjId) → AreSingle es → lookup (same_slow a) es ≡ Some l → lookup (same_slow b) es ≡ Some m
    → has_object oid l.objects ≡ true → has_object oid m.objects ≡ true → a ≡ b
one_lock a b l m [] oid single first second has also = absurd (cc)
one_lock a b l m (e ∷ es) oid single first second has also =
    elim (same_slow a e.0) as (λ s. same_slow a e.0 ≡ s → cond s (Some e.1) (lookup (same_slow a) es) ≡ Some l → a ≡ b) [
      | true ↦ λ is first. elim (same_slow b e.0) as (λ s. same_slow b e.0 ≡ s → cond s (Some e.1) (lookup (same_slow b) es) ≡ Some m → a ≡ b) [
        | true ↦ λ so second. same_slow-true a e.0 is ∙ sym (same_slow-true b e.0 so)
        | false ↦ λ so second.
            let one : l ≡ e.1 = cc in
            let none = single.1 oid (subst (λ (k : Lock). has_object oid k.objects ≡ true) one has) in
            let some = owner_found b m es oid single.2 second also in
            absurd (cc)
      ] refl second
      | false ↦ λ is first. elim (same_slow b e.0) as (λ s. same_slow b e.0 ≡ s → cond s (Some e.1) (lookup (same_slow b) es) ≡ Some m → a ≡ b) [
        | true ↦ λ so second.
            let one : m ≡ e.1 = cc in
            let none = single.1 oid (subst (λ (k : Lock). has_object oid k.objects ≡ true) one also) in
            let some = owner_found a l es oid single.2 first has in
            absurd (cc)
        | false ↦ λ so second. one_lock a b l m es oid single.2 first second has also
      ] refl second
    ] refl first

-- a lock goes
module _ (test : SlowId → Bool) where
  lookup_left : (other : SlowId → Bool) (es : List (SlowId × Lock)) → lookup other es ≡ None → lookup other (remove_entry test es) ≡ None
  lookup_left other [] none = refl
  lookup_left other (e ∷ es) none =
      let parts = no_head (other e.0) e.1 (lookup other es) none in
      elim (test e.0) as (λ b. lookup other (cond b es (e ∷ remove_entry test es)) ≡ None) [
        | true ↦ parts.1
        | false ↦ ap (λ b. cond b (Some e.1) (lookup other (remove_entry test es))) parts.0 ∙ lookup_left other es parts.1
      ]

  none_left : (es : List (SlowId × Lock)) (oid : ObjId) → owner_in es oid ≡ None → owner_in (remove_entry test es) oid ≡ None
  none_left [] oid none = refl
  none_left (e ∷ es) oid none =
      let parts = no_owner (has_object oid e.1.objects) e.1.owner (owner_in es oid) none in
      elim (test e.0) as (λ b. owner_in (cond b es (e ∷ remove_entry test es)) oid ≡ None) [
        | true ↦ parts.1
        | false ↦ ap (λ b. if b then Some e.1.owner else owner_in (remove_entry test es) oid) parts.0 ∙ none_left es oid parts.1
      ]

  pub single_left : (es : List (SlowId × Lock)) → AreSingle es → AreSingle (remove_entry test es)
  single_left [] single = tt
  single_left (e ∷ es) single = elim (test e.0) as (λ b. AreSingle (cond b es (e ∷ remove_entry test es))) [
    | true ↦ single.2
    | false ↦ (lookup_left (same_slow e.0) es single.0, (λ oid has. none_left es oid (single.1 oid has)), single_left es single.2)
  ]

pub owner_left : (key : SlowId) (l : Lock) (es : List (SlowId × Lock)) (oid : ObjId) → AreSingle es → lookup (same_slow key) es ≡ Some l
    → owner_in (remove_entry (same_slow key) es) oid ≡ (if has_object oid l.objects then None else owner_in es oid)
owner_left key l [] oid single at = absurd (cc)
owner_left key l (e ∷ es) oid single at =
    elim (same_slow key e.0) as (λ b. cond b (Some e.1) (lookup (same_slow key) es) ≡ Some l
    → owner_in (cond b es (e ∷ remove_entry (same_slow key) es)) oid ≡ (if has_object oid l.objects then None else (if has_object oid e.1.objects then Some e.1.owner else owner_in es oid))) [
      | true ↦ λ at.
          let one : e.1 ≡ l = cc in
          subst (λ (m : Lock). owner_in es oid ≡ (if has_object oid m.objects then None else (if has_object oid e.1.objects then Some e.1.owner else owner_in es oid))) one
          (elim (has_object oid e.1.objects) as (λ h. has_object oid e.1.objects ≡ h → owner_in es oid ≡ (if h then None else (if h then Some e.1.owner else owner_in es oid))) [
            | true ↦ λ here. single.1 oid here
            | false ↦ λ here. refl
          ] refl)
      | false ↦ λ at.
          let rest = owner_left key l es oid single.2 at in
          elim (has_object oid e.1.objects) as (λ h. has_object oid e.1.objects ≡ h → (if h then Some e.1.owner else owner_in (remove_entry (same_slow key) es) oid) ≡ (if has_object oid l.objects then None else (if h then Some e.1.owner else owner_in es oid))) [
            | true ↦ λ here. elim (has_object oid l.objects) as (λ g. has_object oid l.objects ≡ g → Some e.1.owner ≡ (if g then None else Some e.1.owner)) [
              | true ↦ λ also. let none = single.1 oid here in let some = owner_found key l es oid single.2 at also in absurd (cc)
              | false ↦ λ also. refl
            ] refl
            | false ↦ λ here. rest
          ] refl
    ] at
