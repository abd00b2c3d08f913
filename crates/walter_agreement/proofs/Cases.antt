-- Cases: two sites, two slow commits, two numbers, and what slow commits and parts can be.
use Rattle.std.proofs.Common.{◌≡◌, ◌≢◌, ◌<◌, ◌≤◌, ◌⊎◌, ℕ, zero, suc, Bool, true, false, nat_eq, Some, None, refl, ap, sym, ◌∙◌, subst, arith, inl, inr, if◌then◌else◌}
use Rattle.std.specs.Prelude.{List, Option, Contains}
use Rattle.std.specs.Cmp.{IsEquivalence}
use Rattle.std.proofs.lemmas.Map.Views.{list_any-from_Contains, Contains-from_any}
use Rattle.std.proofs.lemmas.Bool.{eqb-true, eq-eqb}
use Rattle.std.proofs.lemmas.Bool.Decides.{leb_tells}
use Rattle.std.proofs.lemmas.Option.{same_Some}
use Rattle.walter_base.specs.declared.names.ObjId.{ObjId}
use Rattle.walter_base.specs.declared.names.SiteId.{SiteId}
use Rattle.walter_base.specs.declared.names.Tid.{Tid}
use Rattle.walter_base.specs.declared.transaction.Tx.{Tx}
use Rattle.walter_base.specs.Names.{same_site, same_object}
use Rattle.walter_base.proofs.NameTests.{both, same_site-true, same_site_refl, same_object-true, same_object_refl}
use Rattle.walter_rules.specs.Slow.{Slow, Unused, Undecided, Dropped, Decided, Part, Free, Locked, Over, begun, ended, decided, is_slow, has_object, does_lock, unlocked}

-- two sites are the same or not, by their test too
pub site_cases : (a b : SiteId) → ((same_site a b ≡ true) × (a ≡ b)) ⊎ ((same_site a b ≡ false) × (a ≢ b))
site_cases a b =
    elim (same_site a b) as (λ c. same_site a b ≡ c → ((same_site a b ≡ true) × (a ≡ b))
    ⊎ ((same_site a b ≡ false) × (a ≢ b))) [
      | true ↦ λ is. inl (is, same_site-true a b is)
      | false ↦ λ is. inr (
        is,
        λ e. let t = same_site_refl a in let f : same_site a a ≡ false =
            subst (λ z. same_site a z ≡ false) (sym e) is in absurd (cc),
      )
    ] refl

-- two names of a slow commit name the same one or not
pub slow_cases : (j : SiteId) (n : ℕ) (k : SiteId) (m : ℕ)
    → ((is_slow j n k m ≡ true) × (j ≡ k) × (n ≡ m)) ⊎ ((is_slow j n k m ≡ false) × (j ≡ k → n ≢ m))
slow_cases j n k m =
    elim (is_slow j n k m) as (λ c. is_slow j n k m ≡ c → ((is_slow j n k m ≡ true) × (j ≡ k) × (n ≡ m))
    ⊎ ((is_slow j n k m ≡ false) × (j ≡ k → n ≢ m))) [
      | true ↦ λ is. let parts = both (same_site j k) (nat_eq n m) is in
          inl (is, same_site-true j k parts.0, eqb-true n m parts.1)
      | false ↦ λ is. inr (
        is,
        λ e f. let t : is_slow k m k m ≡ true = rw (same_site_refl k, eq-eqb m m refl) refl in
            let g : is_slow k m k m ≡ false = subst (λ z. is_slow z m k m ≡ false) e
            (subst (λ z. is_slow j z k m ≡ false) f is) in absurd (cc),
      )
    ] refl

pub low_or : (a b : ℕ) → (a < b) ⊎ (b ≤ a)
low_or a b = elim (leb_tells (suc a) b) [
  | inl l ↦ inl (let m = l.1 in omega (arith, m))
  | inr l ↦ inr (let m = l.1 in omega (arith, m))
]

pub zero_or : (n : ℕ) → (n ≡ 0) ⊎ (n ≢ 0)
zero_or zero = inl refl
zero_or (suc n) = inr (λ e. omega (arith, e))

-- it ended, without a commit or with one
abbrev pub HasEnded : Slow → Type 0
HasEnded g = (x : Tx) × (((asked : List SiteId) × (g ≡ Dropped x asked)) ⊎ (g ≡ Decided x))

-- it stays as it is, or ends without a commit
abbrev pub DoesEnd : Slow → Slow → Type 0
DoesEnd g h = (h ≡ g) ⊎ ((x : Tx) × (asked : List SiteId) × (g ≡ Undecided x asked) × (h ≡ Dropped x asked))

-- it stays as it is, or commits
abbrev pub DoesDecide : Slow → Slow → Type 0
DoesDecide g h = (h ≡ g) ⊎ ((x : Tx) × (asked : List SiteId) × (g ≡ Undecided x asked) × (h ≡ Decided x))

pub does_end : (g : Slow) → DoesEnd g (ended g)
does_end Unused = inl refl
does_end (Undecided x asked) = inr (x, asked, refl, refl)
does_end (Dropped x asked) = inl refl
does_end (Decided x) = inl refl

pub does_decide : (g : Slow) → DoesDecide g (decided g)
does_decide Unused = inl refl
does_decide (Undecided x asked) = inr (x, asked, refl, refl)
does_decide (Dropped x asked) = inl refl
does_decide (Decided x) = inl refl

-- once it is ended it isn't undecided
pub ended_not_undecided : (g : Slow) (x : Tx) (asked : List SiteId) → ended g ≢ Undecided x asked
ended_not_undecided Unused x asked e = cc
ended_not_undecided (Undecided y others) x asked e = cc
ended_not_undecided (Dropped y others) x asked e = cc
ended_not_undecided (Decided y) x asked e = cc

pub not_unused : (g : Slow) (x : Tx) → begun g ≡ Some x → g ≡ Unused → ⊥
not_unused g x t e = let f : ◌≡◌ {A = Option Tx} None (Some x) = sym (ap begun e) ∙ t in cc

pub ended_not_unused : (g : Slow) → HasEnded g → g ≡ Unused → ⊥
ended_not_unused g h e = elim h.1 [
  | inl d ↦ let f : Unused ≡ Dropped h.0 d.0 = sym e ∙ d.1 in cc
  | inr d ↦ let f : Unused ≡ Decided h.0 = sym e ∙ d in cc
]

pub ended_not_open : (g : Slow) (x : Tx) (asked : List SiteId) → HasEnded g → g ≡ Undecided x asked → ⊥
ended_not_open g x asked h e = elim h.1 [
  | inl d ↦ let f : Undecided x asked ≡ Dropped h.0 d.0 = sym e ∙ d.1 in cc
  | inr d ↦ let f : Undecided x asked ≡ Decided h.0 = sym e ∙ d in cc
]

pub decided_not_open : (g : Slow) (x y : Tx) (asked : List SiteId) → g ≡ Decided x → g ≡ Undecided y asked → ⊥
decided_not_open g x y asked d e = let f : Decided x ≡ Undecided y asked = sym d ∙ e in cc

pub dropped_not_open : (g : Slow) (x y : Tx) (asked others : List SiteId) → g ≡ Dropped x asked → g ≡ Undecided y others
    → ⊥
dropped_not_open g x y asked others d e = let f : Dropped x asked ≡ Undecided y others = sym d ∙ e in cc

pub same_open : (g : Slow) (x y : Tx) (asked : List SiteId) → begun g ≡ Some x → g ≡ Undecided y asked → x ≡ y
same_open g x y asked t e = let f : ◌≡◌ {A = Option Tx} (Some x) (Some y) = sym t ∙ ap begun e in same_Some x y f

pub locked_not_over : (a : Part) (t : Tid) (objs : List ObjId) → a ≡ Locked t objs → a ≡ Over → ⊥
locked_not_over a t objs h d = let f : Over ≡ Locked t objs = sym d ∙ h in cc

pub locked_not_free : (a : Part) (t : Tid) (objs : List ObjId) → a ≡ Locked t objs → a ≡ Free → ⊥
locked_not_free a t objs h d = let f : Free ≡ Locked t objs = sym d ∙ h in cc

pub over_not_free : (a : Part) → a ≡ Over → a ≡ Free → ⊥
over_not_free a h d = let f : Free ≡ Over = sym d ∙ h in cc

pub over_not_locked : (a : Part) (t : Tid) (objs : List ObjId) → Over ≢ Locked t objs
over_not_locked a t objs e = cc

pub unlocked_not_locked : (a : Part) (t : Tid) (objs : List ObjId) → unlocked a ≢ Locked t objs
unlocked_not_locked Free t objs e = cc
unlocked_not_locked (Locked u others) t objs e = cc
unlocked_not_locked Over t objs e = cc

pub none_not_some : {X : Type 0} (o : Option X) (x : X) → o ≡ None → o ≡ Some x → ⊥
none_not_some {X} o x n s = let f : ◌≡◌ {A = Option X} None (Some x) = sym n ∙ s in cc

-- two equal names of a slow commit pass the test
pub slow_itself : (j : SiteId) (n : ℕ) (k : SiteId) (m : ℕ) → j ≡ k → n ≡ m → is_slow j n k m ≡ true
slow_itself j n k m ej en = subst (λ z. is_slow j n z m ≡ true) ej
    (subst (λ z. is_slow j n j z ≡ true) en (rw (same_site_refl j, eq-eqb n n refl) refl))

-- a part locks the object or not, by its test too
pub lock_cases : (a : Part) (oid : ObjId)
    → ((t : Tid) × (objs : List ObjId) × (a ≡ Locked t objs) × (has_object oid objs ≡ true) × (does_lock a oid ≡ true))
    ⊎ ((does_lock a oid ≡ false) × ((t : Tid) (objs : List ObjId) → a ≡ Locked t objs → has_object oid objs ≡ true → ⊥))
lock_cases Free oid = inr (refl, λ t objs e. absurd cc)
lock_cases (Locked u others) oid =
    elim (has_object oid others) as (λ b. has_object oid others ≡ b
    → ((t : Tid) × (objs : List ObjId) × (Locked u others ≡ Locked t objs) × (has_object oid objs ≡ true)
    × (has_object oid others ≡ true))
    ⊎ ((has_object oid others ≡ false) × ((t : Tid) (objs : List ObjId) → Locked u others ≡ Locked t objs
    → has_object oid objs ≡ true → ⊥))) [
      | true ↦ λ is. inl (u, others, refl, is, is)
      | false ↦ λ is. inr (
        is,
        λ t objs e h. let f : others ≡ objs = cc in let g : has_object oid others ≡ true =
            ap (λ z. has_object oid z) f ∙ h in absurd (cc),
      )
    ] refl
lock_cases Over oid = inr (refl, λ t objs e. absurd cc)

-- a test that is true exactly of equal values is an equivalence
test_equivalence : {K : Type 0} (test : K → K → Bool) → ((x y : K) → test x y ≡ true → x ≡ y)
    → ((x : K) → test x x ≡ true) → IsEquivalence test
test_equivalence {K} test is same = record {
  refl = same;
  symm = λ x y. elim (test x y) as (λ b. test x y ≡ b → b ≡ test y x) [
    | true ↦ λ h. sym (subst (λ z. test z x ≡ true) (is x y h) (same x))
    | false ↦ λ h. elim (test y x) as (λ c. test y x ≡ c → false ≡ c) [
      | true ↦ λ k. absurd (let f : test x x ≡ false = subst (λ z. test x z ≡ false) (is y x k) h in let g = same x in
          cc)
      | false ↦ λ k. refl
    ] refl
  ] refl;
  congr = λ x y z h. ap (λ w. test w z) (is x y h);
}

-- the test for an object of a list is true exactly of those that it contains
pub object_is_in : (oid : ObjId) (objs : List ObjId) → Contains objs oid → has_object oid objs ≡ true
object_is_in oid objs h =
    list_any-from_Contains (test_equivalence same_object same_object-true same_object_refl) oid objs h

pub object_in : (oid : ObjId) (objs : List ObjId) → has_object oid objs ≡ true → Contains objs oid
object_in oid objs h = Contains-from_any same_object-true oid objs h

-- an unlocked part is as it was, or free
pub unlocked_or_free : (a : Part) → (unlocked a ≡ a) ⊎ (unlocked a ≡ Free)
unlocked_or_free Free = inl refl
unlocked_or_free (Locked t objs) = inr refl
unlocked_or_free Over = inl refl

-- where one slow commit's part at a site changes, each part stays or is that one
pub part_cases : (f : Part → Part) (locks locks2 : SiteId → SiteId → ℕ → Part) (i k : SiteId) (m : ℕ)
    → ((p j : SiteId) (n : ℕ) → p ≢ i → locks2 p j n ≡ locks p j n)
    → ((j : SiteId) (n : ℕ) → locks2 i j n ≡ (if is_slow k m j n then f (locks i j n) else locks i j n))
    → (p j : SiteId) (n : ℕ)
    → (locks2 p j n ≡ locks p j n) ⊎ ((p ≡ i) × (j ≡ k) × (n ≡ m) × (locks2 p j n ≡ f (locks p j n)))
part_cases f locks locks2 i k m away here p j n = elim (site_cases p i) [
  | inr apart ↦ inl (away p j n apart.1)
  | inl same ↦ elim (slow_cases k m j n) [
    | inl it ↦
        let now : locks2 i j n ≡ f (locks i j n) = here j n
        ∙ ap (λ b. if b then f (locks i j n) else locks i j n) it.0 in
        inr (same.1, sym it.1, sym it.2, subst (λ z. locks2 z j n ≡ f (locks z j n)) (sym same.1) now)
    | inr other ↦
        let now : locks2 i j n ≡ locks i j n = here j n
        ∙ ap (λ b. if b then f (locks i j n) else locks i j n) other.0 in
        inl (subst (λ z. locks2 z j n ≡ locks z j n) (sym same.1) now)
  ]
]

-- where one slow commit of a site changes, each stays or is that one
pub standing_cases : (f : Slow → Slow) (slows slows2 : SiteId → ℕ → Slow) (i : SiteId) (m : ℕ)
    → ((j : SiteId) (n : ℕ) → j ≢ i → slows2 j n ≡ slows j n)
    → ((n : ℕ) → slows2 i n ≡ (if nat_eq m n then f (slows i n) else slows i n))
    → (j : SiteId) (n : ℕ) → (slows2 j n ≡ slows j n) ⊎ ((j ≡ i) × (n ≡ m) × (slows2 j n ≡ f (slows j n)))
standing_cases f slows slows2 i m away here j n = elim (site_cases j i) [
  | inr apart ↦ inl (away j n apart.1)
  | inl same ↦ elim (nat_eq m n) as (λ b. nat_eq m n ≡ b → (slows2 j n ≡ slows j n)
      ⊎ ((j ≡ i) × (n ≡ m) × (slows2 j n ≡ f (slows j n)))) [
        | true ↦ λ is.
            let now : slows2 i n ≡ f (slows i n) = here n ∙ ap (λ b. if b then f (slows i n) else slows i n) is in
            inr (same.1, sym (eqb-true m n is), subst (λ z. slows2 z n ≡ f (slows z n)) (sym same.1) now)
        | false ↦ λ is.
            let now : slows2 i n ≡ slows i n = here n ∙ ap (λ b. if b then f (slows i n) else slows i n) is in
            inl (subst (λ z. slows2 z n ≡ slows z n) (sym same.1) now)
      ] refl
]
