-- Which slow commits are busy, where what is kept of one changes.
use Rattle.std.proofs.Common.{◌≡◌, ◌≤◌, ℕ, Bool, true, false, not, ◌&&◌, ◌||◌, nat_eq, cond, List, [], ◌∷◌, ◌++◌, filter, Option, Some, None, is_some, option_map, refl, ap, sym, ◌∙◌, subst, arith, if◌then◌else◌}
use Rattle.std.specs.List.{list_any, list_all}
use Rattle.std.specs.Map.{lookup}
use Rattle.std.proofs.lemmas.List.Folds.{list_any-append}
use Rattle.std.proofs.lemmas.Bool.{eqb-true, eq-eqb}
use Rattle.walter_base.specs.declared.names.SiteId.{SiteId}
use Rattle.walter_base.specs.declared.transaction.Conflict.{Conflict}
use Rattle.walter_base.specs.declared.transaction.Tx.{Tx}
use Rattle.walter_base.specs.Names.{same_site}
use Rattle.walter_rules.specs.Slow.{has_site}
use Rattle.walter_slow.specs.Kept.{Kept, is_busy, is_being_decided, heard_yes, heard_released, heard_no, ended_by, booted}
use Rattle.walter_slow.specs.Sites.{is_missing, with_heard}
use Rattle.walter_slow.specs.Tables.{AreBusy, RiseBetween}
use Rattle.walter_slow.proofs.Standings.{Changes}

-- ---- numbers without one

without_one : (a b : Bool) → b ≡ true → (a && not b) ≡ false
without_one true b is = ap not is
without_one false b is = refl

-- one more number in front of those without one
any_front : (n slow m : ℕ) (ms tail : List ℕ) (out here : Bool) → nat_eq slow m ≡ out → nat_eq n m ≡ here
    → list_any (nat_eq n) tail ≡ (list_any (nat_eq n) ms && not (nat_eq slow n))
    → list_any (nat_eq n) (if not out then m ∷ tail else tail) ≡ ((here || list_any (nat_eq n) ms) && not (nat_eq slow n))
any_front n slow m ms tail true true a b rest =
    let same : nat_eq slow n ≡ true = eq-eqb slow n (eqb-true slow m a ∙ sym (eqb-true n m b)) in
    rest ∙ (without_one (list_any (nat_eq n) ms) (nat_eq slow n) same ∙ sym (ap not same))
any_front n slow m ms tail true false a b rest = rest
any_front n slow m ms tail false true a b rest =
    let apart : nat_eq slow n ≡ false = subst (λ k. nat_eq slow k ≡ false) (sym (eqb-true n m b)) a in
    ap (λ x. x || list_any (nat_eq n) tail) b ∙ sym (ap not apart)
any_front n slow m ms tail false false a b rest = ap (λ x. x || list_any (nat_eq n) tail) b ∙ rest

pub any_without : (n slow : ℕ) (ns : List ℕ) → list_any (nat_eq n) (filter (λ m. not (nat_eq slow m)) ns)
    ≡ (list_any (nat_eq n) ns && not (nat_eq slow n))
any_without n slow [] = refl
any_without n slow (m ∷ ms) =
    any_front n slow m ms (filter (λ k. not (nat_eq slow k)) ms) (nat_eq slow m) (nat_eq n m) refl refl (any_without n slow ms)

from_lower : (less first last : ℕ) (ns : List ℕ) → less ≤ first → RiseBetween first last ns → RiseBetween less last ns
from_lower less first last [] le rise = omega (arith, le, rise)
from_lower less first last (n ∷ ns) le rise = (omega (arith, le, rise.0), rise.1)

pub rise_without : (test : ℕ → Bool) (first last : ℕ) (ns : List ℕ) → RiseBetween first last ns → RiseBetween first last (filter test ns)
rise_without test first last [] rise = rise
rise_without test first last (n ∷ ns) rise = elim (test n) as (λ b. RiseBetween first last (if b then n ∷ filter test ns else filter test ns)) [
  | true ↦ (rise.0, rise_without test n last ns rise.1)
  | false ↦ from_lower first n last (filter test ns) (let low = rise.0 in omega (arith, low)) (rise_without test n last ns rise.1)
]

-- ---- busy ones

-- the busy numbers before and after a change of what is kept under one
module _ (old new : List (ℕ × Kept)) (slow : ℕ) (f : Kept → Kept) (busy after : List ℕ) (are : AreBusy old busy) (changes : Changes old new slow f) where
  there : (n : ℕ) (here : Bool) → nat_eq slow n ≡ here → lookup (nat_eq n) new ≡ (if here then option_map f (lookup (nat_eq n) old) else lookup (nat_eq n) old)
  there n here is = changes.at n ∙ ap (λ b. if b then option_map f (lookup (nat_eq n) old) else lookup (nat_eq n) old) is

  -- where one that is busy may have come to rest
  pub settled : (now : Bool)
      → ((n : ℕ) → list_any (nat_eq n) after ≡ (list_any (nat_eq n) busy && (now || not (nat_eq slow n))))
      → ((kept : Kept) → lookup (nat_eq slow) old ≡ Some kept → (now ≡ is_busy (Some (f kept))) × (is_busy (Some (f kept)) ≡ true → is_busy (Some kept) ≡ true))
      → AreBusy new after
  settled now without one n = elim (nat_eq slow n) as (λ b. nat_eq slow n ≡ b → list_any (nat_eq n) after ≡ is_busy (lookup (nat_eq n) new)) [
    | true ↦ λ here.
        without n ∙ (ap (λ b. list_any (nat_eq n) busy && (now || not b)) here
        ∙ (ap (λ b. b && (now || false)) (are n)
        ∙ (own (lookup (nat_eq n) old) (λ kept at. one kept (subst (λ m. lookup (nat_eq m) old ≡ Some kept) (sym (eqb-true slow n here)) at)) refl
        ∙ ap is_busy (sym (there n true here)))))
    | false ↦ λ apart.
        without n ∙ (ap (λ b. list_any (nat_eq n) busy && (now || not b)) apart
        ∙ (always now (list_any (nat_eq n) busy) ∙ (are n ∙ ap is_busy (sym (there n false apart)))))
  ] refl
    where
      always : (now b : Bool) → (b && (now || true)) ≡ b
      always true true = refl
      always true false = refl
      always false true = refl
      always false false = refl

      agree : (was is now : Bool) → now ≡ is → (is ≡ true → was ≡ true) → (was && (now || false)) ≡ is
      agree true true now same less = ap (λ b. b || false) same
      agree true false now same less = ap (λ b. b || false) same
      agree false true now same less = less refl
      agree false false now same less = refl

      own : (o : Option Kept) → ((kept : Kept) → lookup (nat_eq n) old ≡ Some kept → (now ≡ is_busy (Some (f kept))) × (is_busy (Some (f kept)) ≡ true → is_busy (Some kept) ≡ true))
          → lookup (nat_eq n) old ≡ o → (is_busy o && (now || false)) ≡ is_busy (option_map f o)
      own None so at = refl
      own (Some kept) so at = let s = so kept at in agree (is_busy (Some kept)) (is_busy (Some (f kept))) now s.0 s.1

  -- where each is as busy as it was
  pub unsettled : after ≡ busy → ((kept : Kept) → is_busy (Some (f kept)) ≡ is_busy (Some kept)) → AreBusy new after
  unsettled same so n =
      ap (list_any (nat_eq n)) same ∙ (are n ∙ (elim (nat_eq slow n) as (λ b. nat_eq slow n ≡ b → is_busy (lookup (nat_eq n) old) ≡ is_busy (lookup (nat_eq n) new)) [
        | true ↦ λ here. own (lookup (nat_eq n) old) ∙ ap is_busy (sym (there n true here))
        | false ↦ λ apart. ap is_busy (sym (there n false apart))
      ] refl))
    where
      own : (o : Option Kept) → is_busy o ≡ is_busy (option_map f o)
      own None = refl
      own (Some kept) = sym (so kept)

-- one that is committed is kept no more
pub committed : (old new : List (ℕ × Kept)) (slow : ℕ) (busy after : List ℕ) → AreBusy old busy
    → ((n : ℕ) → lookup (nat_eq n) new ≡ cond (nat_eq slow n) None (lookup (nat_eq n) old))
    → ((n : ℕ) → list_any (nat_eq n) after ≡ (list_any (nat_eq n) busy && (false || not (nat_eq slow n)))) → AreBusy new after
committed old new slow busy after are gone without n =
    without n ∙ (elim (nat_eq slow n) as (λ b. nat_eq slow n ≡ b → (list_any (nat_eq n) busy && (false || not b)) ≡ is_busy (lookup (nat_eq n) new)) [
      | true ↦ λ here. none (list_any (nat_eq n) busy) ∙ ap is_busy (sym (gone n ∙ ap (λ b. cond b None (lookup (nat_eq n) old)) here))
      | false ↦ λ apart. all (list_any (nat_eq n) busy) ∙ (are n ∙ ap is_busy (sym (gone n ∙ ap (λ b. cond b None (lookup (nat_eq n) old)) apart)))
    ] refl)
  where
    none : (b : Bool) → (b && false) ≡ false
    none true = refl
    none false = refl

    all : (b : Bool) → (b && true) ≡ b
    all true = refl
    all false = refl

-- one that begins is busy
pub begun : (old new : List (ℕ × Kept)) (slow : ℕ) (kept : Kept) (busy after : List ℕ) → AreBusy old busy
    → ((n : ℕ) → lookup (nat_eq n) new ≡ cond (nat_eq slow n) (Some kept) (lookup (nat_eq n) old))
    → is_busy (Some kept) ≡ true → after ≡ busy ++ slow ∷ [] → AreBusy new after
begun old new slow kept busy after are more is longer n =
    ap (list_any (nat_eq n)) longer ∙ (list_any-append (nat_eq n) busy (slow ∷ [])
    ∙ (elim (nat_eq slow n) as (λ b. nat_eq slow n ≡ b → (list_any (nat_eq n) busy || (nat_eq n slow || false)) ≡ is_busy (lookup (nat_eq n) new)) [
      | true ↦ λ here.
          ap (λ b. list_any (nat_eq n) busy || (b || false)) (eq-eqb n slow (sym (eqb-true slow n here)))
          ∙ (some (list_any (nat_eq n) busy) ∙ sym (ap is_busy (more n ∙ ap (λ b. cond b (Some kept) (lookup (nat_eq n) old)) here) ∙ is))
      | false ↦ λ apart.
          ap (λ b. list_any (nat_eq n) busy || (b || false)) (other n slow apart)
          ∙ (none (list_any (nat_eq n) busy) ∙ (are n ∙ sym (ap is_busy (more n ∙ ap (λ b. cond b (Some kept) (lookup (nat_eq n) old)) apart))))
    ] refl))
  where
    some : (b : Bool) → (b || true) ≡ true
    some true = refl
    some false = refl

    none : (b : Bool) → (b || false) ≡ b
    none true = refl
    none false = refl

    other : (n slow : ℕ) → nat_eq slow n ≡ false → nat_eq n slow ≡ false
    other n slow apart = elim (nat_eq n slow) as (λ b. nat_eq n slow ≡ b → b ≡ false) [
      | true ↦ λ same. absurd (let e = eq-eqb slow n (sym (eqb-true n slow same)) in let f = sym apart ∙ e in cc)
      | false ↦ λ same. refl
    ] refl

-- ---- one slow commit

decides_busy : (kept : Kept) → is_some kept.tx ≡ true → is_busy (Some kept) ≡ true
decides_busy kept is = ap (λ b. b || not (list_all (λ site. has_site site kept.heard) kept.asked)) is

-- one that was being decided was busy
pub ended_busy : (refusal : Option Conflict) (o : Option Kept) (kept : Kept) → o ≡ Some kept → is_being_decided o ≡ true → is_busy (Some (ended_by refusal kept)) ≡ true
    → is_busy (Some kept) ≡ true
ended_busy refusal o kept at decides busy = decides_busy kept (subst (λ (x : Option Kept). is_being_decided x ≡ true) at decides)

pub booted_busy : (kept : Kept) → is_busy (Some (booted kept)) ≡ true → is_busy (Some kept) ≡ true
booted_busy kept = elim (is_some kept.tx) as (λ b. is_some kept.tx ≡ b → is_busy (Some (if b then ended_by None kept else kept)) ≡ true → is_busy (Some kept) ≡ true) [
  | true ↦ λ is busy. decides_busy kept is
  | false ↦ λ is busy. busy
] refl

pub yes_busy : (from : SiteId) (kept : Kept) → is_busy (Some (heard_yes from kept)) ≡ is_busy (Some kept)
yes_busy from kept = elim (is_some kept.tx) as (λ b. is_some kept.tx ≡ b
    → is_busy (Some (if b then record kept { heard = with_heard from kept.asked kept.heard } else kept)) ≡ is_busy (Some kept)) [
      | true ↦ λ is. decides_busy (record kept { heard = with_heard from kept.asked kept.heard }) is ∙ sym (decides_busy kept is)
      | false ↦ λ is. refl
    ] refl

pub no_busy : (conflict : Conflict) (kept : Kept) → is_busy (Some (heard_no conflict kept)) ≡ is_busy (Some kept)
no_busy conflict kept = elim (is_some kept.tx) as (λ b. is_busy (Some (if b then kept else record kept { no = Some conflict })) ≡ is_busy (Some kept)) [
  | true ↦ refl
  | false ↦ refl
]

-- who was heard still is
still_front : (heard more sites : List SiteId) (site : SiteId) (b : Bool) → has_site site heard ≡ b
    → (list_all (λ s. has_site s heard) sites ≡ true → list_all (λ s. has_site s (heard ++ more)) sites ≡ true)
    → (b && list_all (λ s. has_site s heard) sites) ≡ true
    → (has_site site (heard ++ more) && list_all (λ s. has_site s (heard ++ more)) sites) ≡ true
still_front heard more sites site true is behind rest =
    ap (λ b. b && list_all (λ s. has_site s (heard ++ more)) sites)
    (list_any-append (same_site site) heard more ∙ ap (λ b. b || list_any (same_site site) more) is)
    ∙ behind rest
still_front heard more sites site false is behind rest = absurd cc

heard_still : (heard more asked : List SiteId) → list_all (λ site. has_site site heard) asked ≡ true → list_all (λ site. has_site site (heard ++ more)) asked ≡ true
heard_still heard more [] all = refl
heard_still heard more (site ∷ sites) all =
    still_front heard more sites site (has_site site heard) refl (heard_still heard more sites) all

less_missing : (asked heard more : List SiteId) → not (list_all (λ site. has_site site (heard ++ more)) asked) ≡ true
    → not (list_all (λ site. has_site site heard) asked) ≡ true
less_missing asked heard more misses = elim (list_all (λ site. has_site site heard) asked) as (λ b. list_all (λ site. has_site site heard) asked ≡ b → not b ≡ true) [
  | true ↦ λ all. absurd (let e = heard_still heard more asked all in let f = sym (ap not e) ∙ misses in cc)
  | false ↦ λ all. refl
] refl

with_missing : (site : SiteId) (asked heard : List SiteId) → not (list_all (λ s. has_site s (with_heard site asked heard)) asked) ≡ true
    → not (list_all (λ s. has_site s heard) asked) ≡ true
with_missing site asked heard = elim (is_missing site asked heard) as (λ b. not (list_all (λ s. has_site s (if b then heard ++ site ∷ [] else heard)) asked) ≡ true
    → not (list_all (λ s. has_site s heard) asked) ≡ true) [
      | true ↦ λ misses. less_missing asked heard (site ∷ []) misses
      | false ↦ λ misses. misses
    ]

pub released_busy : (from : SiteId) (kept : Kept) → is_busy (Some (heard_released from kept)) ≡ true → is_busy (Some kept) ≡ true
released_busy from kept = elim (is_some kept.tx) as (λ b. is_some kept.tx ≡ b
    → is_busy (Some (if b then kept else record kept { heard = with_heard from kept.asked kept.heard })) ≡ true → is_busy (Some kept) ≡ true) [
      | true ↦ λ is busy. busy
      | false ↦ λ is busy.
          let misses : not (list_all (λ s. has_site s (with_heard from kept.asked kept.heard)) kept.asked) ≡ true =
          sym (ap (λ b. b || not (list_all (λ s. has_site s (with_heard from kept.asked kept.heard)) kept.asked)) is) ∙ busy in
          ap (λ b. b || not (list_all (λ s. has_site s kept.heard) kept.asked)) is ∙ with_missing from kept.asked kept.heard misses
    ] refl

-- what a look-up lent, changed so, tells whether the number stays busy
pub tells_busy : (o : Option Kept) (was now kept : Kept) (f : Kept → Kept) (b : Bool) → Some was ≡ o → o ≡ Some kept → now ≡ f was
    → b ≡ is_busy (Some now) → b ≡ is_busy (Some (f kept))
tells_busy o was now kept f b here at is so =
    let same : was ≡ kept = (let e : Some was ≡ Some kept = here ∙ at in cc) in
    so ∙ ap (λ (k : Kept). is_busy (Some k)) (is ∙ ap f same)

pub busy_new : (kept : Kept) {tx : Tx} {asked : List SiteId} → kept ≡ record { tx = Some tx; asked = asked; heard = []; no = None } → is_busy (Some kept) ≡ true
busy_new kept is = ap (λ (k : Kept). is_busy (Some k)) is
