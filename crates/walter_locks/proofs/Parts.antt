-- What a site has of each slow commit, where one of them changes.
use Rattle.std.proofs.Common.{◌≡◌, ◌↔◌, ℕ, Bool, true, false, cond, List, Option, Some, None, IsSome, IsTrue, is_some, Contains, All, Result, Ok, Err, IsOk, OnOk, refl, ap, sym, ◌∙◌, subst, if◌then◌else◌}
use Rattle.std.specs.Option.{option_map_or}
use Rattle.std.proofs.lemmas.List.Folds.{list_any_at}
use Rattle.std.proofs.lemmas.List.Elements.{All-contains}
use Rattle.indexmap.proofs.CallerLemmas.{Contains-list_any}
use Rattle.walter_base.specs.declared.names.ObjId.{ObjId}
use Rattle.walter_base.specs.declared.names.SiteId.{SiteId}
use Rattle.walter_base.specs.declared.names.Tid.{Tid}
use Rattle.walter_base.specs.Names.{same_object}
use Rattle.walter_base.proofs.NameTests.{same_object-true, same_object_refl}
use Rattle.walter_locks.specs.declared.lock.Lock.{Lock}
use Rattle.walter_locks.specs.declared.lock.SlowId.{SlowId}
use Rattle.walter_locks.specs.Intervals.{Numbers}
use Rattle.walter_locks.specs.Parts.{same_slow, is_dead, lock_of, owner_in, AreSingle}
use Rattle.walter_rules.specs.Slow.{Part, Free, Locked, Over, has_object, does_lock, unlocked}
use Rattle.walter_locks.proofs.SingleLocks.{same_slow-true, owner_found, lock_found, one_lock}

pub contains_has : (oid : ObjId) (objects : List ObjId) → Contains objects oid → has_object oid objects ≡ true
contains_has oid objects c = list_any_at (same_object oid) objects c.0 oid c.1 (subst (λ o. same_object oid o ≡ true) (sym c.2) (same_object_refl oid))

pub has_contains : (oid : ObjId) (objects : List ObjId) → has_object oid objects ≡ true → Contains objects oid
has_contains oid objects has = Contains-list_any same_object same_object-true objects oid has

-- by the lock, if there is one, and whether the number is over
abbrev pub part_in : Option Lock → Bool → Part
part_in o dead = option_map_or (λ lock. Locked lock.owner lock.objects) o (if dead then Over else Free)

pub locked_part : (o : Option Lock) (dead : Bool) (tid : Tid) (objects : List ObjId) → part_in o dead ≡ Locked tid objects → (l : Lock) × (o ≡ Some l) × (l.owner ≡ tid) × (l.objects ≡ objects)
locked_part None true tid objects is = absurd (cc)
locked_part None false tid objects is = absurd (cc)
locked_part (Some l) dead tid objects is = (l, refl, (cc), (cc))

pub free_part : (o : Option Lock) (dead : Bool) → part_in o dead ≡ Free → (o ≡ None) × (dead ≡ false)
free_part None true is = absurd (cc)
free_part None false is = (refl, refl)
free_part (Some l) dead is = absurd (cc)

pub is_locked : (o : Option Lock) (dead : Bool) → IsTrue (is_some o) ↔ ((tid : Tid) × (objects : List ObjId) × (part_in o dead ≡ Locked tid objects))
is_locked None true = ((λ is. absurd (cc)), (λ w. let is = w.2 in absurd (cc)))
is_locked None false = ((λ is. absurd (cc)), (λ w. let is = w.2 in absurd (cc)))
is_locked (Some l) dead = ((λ is. (l.owner, l.objects, refl)), (λ w. refl))

-- a lock is put under a slow commit, or goes
pub parts_locked : (b : Bool) (l : Lock) (old new : Option Lock) (dead : Bool) → new ≡ cond b (Some l) old → part_in new dead ≡ (if b then Locked l.owner l.objects else part_in old dead)
parts_locked true l old new dead is = ap (λ o. part_in o dead) is
parts_locked false l old new dead is = ap (λ o. part_in o dead) is

unlocked_part : (old : Option Lock) (dead : Bool) → (IsSome old → dead ≡ false) → part_in None dead ≡ unlocked (part_in old dead)
unlocked_part None true alive = refl
unlocked_part None false alive = refl
unlocked_part (Some l) dead alive = ap (λ d. if d then Over else Free) (alive refl)

pub parts_unlocked : (b : Bool) (old new : Option Lock) (dead : Bool) → new ≡ cond b None old → (IsSome old → dead ≡ false) → part_in new dead ≡ (if b then unlocked (part_in old dead) else part_in old dead)
parts_unlocked true old new dead is alive = ap (λ o. part_in o dead) is ∙ unlocked_part old dead alive
parts_unlocked false old new dead is alive = ap (λ o. part_in o dead) is

-- what a part that has an object, or hasn't, tells of the lock
pub lock_with : (o : Option Lock) (dead : Bool) (oid : ObjId) → does_lock (part_in o dead) oid ≡ true → (l : Lock) × (o ≡ Some l) × (has_object oid l.objects ≡ true)
lock_with None true oid is = absurd (cc)
lock_with None false oid is = absurd (cc)
lock_with (Some l) dead oid is = (l, refl, is)

pub lock_without : (o : Option Lock) (dead : Bool) (oid : ObjId) (l : Lock) → does_lock (part_in o dead) oid ≡ false → o ≡ Some l → has_object oid l.objects ≡ false
lock_without o dead oid l is at = subst (λ x. does_lock (part_in x dead) oid ≡ false) at is

-- the same slow commit
pub at_same : (P : SlowId → Type 0) (key other : SlowId) → same_slow key other ≡ true → P key → P other
at_same P key other same holds = subst P (same_slow-true key other same) holds

module _ (locks : List (SlowId × Lock)) (dead : List Numbers) (single : AreSingle locks) where
  -- an owner is that of a lock, which has the object
  pub owner_of_lock : (o : ObjId) (tid : Tid) → (owner_in locks o ≡ Some tid) ↔ ((j : SiteId) × (n : ℕ) × (objects : List ObjId) × (part_in (lock_of locks j n) (is_dead dead j n) ≡ Locked tid objects) × Contains objects o)
  owner_of_lock o tid = (
    (λ is. let f = lock_found locks o tid single is in
        (f.0.coordinator, f.0.slow, f.1.objects, ap (λ x. part_in x (is_dead dead f.0.coordinator f.0.slow)) f.2 ∙ ap (λ t. Locked t f.1.objects) f.3, has_contains o f.1.objects f.4)),
    (λ w. let p = locked_part (lock_of locks w.0 w.1) (is_dead dead w.0 w.1) tid w.2 w.3 in
        owner_found (record { coordinator = w.0; slow = w.1 }) p.0 locks o single p.1 (subst (λ os. has_object o os ≡ true) (sym p.3) (contains_has o w.2 w.4)) ∙ ap (λ t. Some t) p.2),
  )

  pub one_owner : (j k : SiteId) (n m : ℕ) (tid other : Tid) (objects others : List ObjId) (o : ObjId) → part_in (lock_of locks j n) (is_dead dead j n) ≡ Locked tid objects
      → part_in (lock_of locks k m) (is_dead dead k m) ≡ Locked other others → Contains objects o → Contains others o → (j ≡ k) × (n ≡ m)
  one_owner j k n m tid other objects others o first second has also =
      let p = locked_part (lock_of locks j n) (is_dead dead j n) tid objects first in
      let q = locked_part (lock_of locks k m) (is_dead dead k m) other others second in
      let one = one_lock (record { coordinator = j; slow = n }) (record { coordinator = k; slow = m }) p.0 q.0 locks o single p.1 q.1
      (subst (λ os. has_object o os ≡ true) (sym p.3) (contains_has o objects has)) (subst (λ os. has_object o os ≡ true) (sym q.3) (contains_has o others also)) in
      (ap (λ (s : SlowId). s.coordinator) one, ap (λ (s : SlowId). s.slow) one)

-- what is locked isn't over
module _ (old new : List (SlowId × Lock)) (dead : List Numbers) (key : SlowId) (alive : (j : SiteId) (n : ℕ) → IsSome (lock_of old j n) → is_dead dead j n ≡ false) where
  pub alive_locked : (l : Lock) → ((j : SiteId) (n : ℕ) → lock_of new j n ≡ cond (same_slow key (record { coordinator = j; slow = n })) (Some l) (lock_of old j n))
      → is_dead dead key.coordinator key.slow ≡ false → (j : SiteId) (n : ℕ) → IsSome (lock_of new j n) → is_dead dead j n ≡ false
  alive_locked l given here j n is =
      elim (same_slow key (record { coordinator = j; slow = n })) as (λ b. same_slow key (record { coordinator = j; slow = n }) ≡ b → lock_of new j n ≡ cond b (Some l) (lock_of old j n) → is_dead dead j n ≡ false) [
        | true ↦ λ same at. at_same (λ k. is_dead dead k.coordinator k.slow ≡ false) key (record { coordinator = j; slow = n }) same here
        | false ↦ λ same at. alive j n (subst (λ o. IsSome o) at is)
      ] refl (given j n)

-- where some of the locks go
pub alive_left : (old new : List (SlowId × Lock)) (dead : List Numbers) (goes : SiteId → ℕ → Bool) → ((j : SiteId) (n : ℕ) → IsSome (lock_of old j n) → is_dead dead j n ≡ false)
    → ((j : SiteId) (n : ℕ) → lock_of new j n ≡ cond (goes j n) None (lock_of old j n))
    → (j : SiteId) (n : ℕ) → IsSome (lock_of new j n) → is_dead dead j n ≡ false
alive_left old new dead goes alive given j n is = alive j n (some_left (goes j n) (lock_of old j n) (subst (λ o. IsSome o) (given j n) is))
  where
    some_left : (b : Bool) (o : Option Lock) → IsSome (cond b None o) → IsSome o
    some_left true o is = absurd (cc)
    some_left false o is = is

-- the objects that are to be locked have no owner
pub free_objects : (locks : List (SlowId × Lock)) (objects : List ObjId) → All (λ oid. owner_in locks oid ≡ None) objects → (oid : ObjId) → has_object oid objects ≡ true → owner_in locks oid ≡ None
free_objects locks objects free oid has = All-contains (λ oid. owner_in locks oid ≡ None) objects oid free (has_contains oid objects has)

pub from_ok : {T E : Type 0} (r : Result T E) (P : Type 0) → IsOk r → OnOk r P → P
from_ok (Ok x) P is p = p
from_ok (Err e) P is p = absurd (cc)
