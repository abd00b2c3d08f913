-- Which slow commits of a transaction are being decided, by a walk over the busy ones.
use Rattle.std.proofs.Common.{◌≡◌, ◌↔◌, ℕ, Bool, true, false, not, ◌||◌, nat_eq, List, [], ◌∷◌, Option, Some, None, is_some, IsTrue, refl, ap, ◌∙◌, subst}
use Rattle.std.specs.List.{list_any, list_all}
use Rattle.std.specs.Map.{lookup}
use Rattle.std.specs.Option.{option_map_or}
use Rattle.std.proofs.lemmas.Bool.{eqb-true}
use Rattle.walter_base.specs.declared.names.Tid.{Tid}
use Rattle.walter_base.specs.declared.transaction.Tx.{Tx}
use Rattle.walter_base.specs.Names.{same_tid}
use Rattle.walter_rules.specs.Slow.{has_site}
use Rattle.walter_slow.specs.Kept.{Kept, does_decide, is_busy}
use Rattle.walter_slow.specs.Tables.{AreBusy}

decides_one : (tid : Tid) (kept : Kept) → does_decide tid kept ≡ true → (tx : Tx) × (kept.tx ≡ Some tx) × (same_tid tid tx.tid ≡ true)
decides_one tid kept is = by kept.tx is
  where
    by : (o : Option Tx) → option_map_or (λ tx. same_tid tid tx.tid) o false ≡ true → (tx : Tx) × (o ≡ Some tx) × (same_tid tid tx.tid ≡ true)
    by None is = absurd cc
    by (Some tx) is = (tx, refl, is)

-- some number passes
found_front : (test : ℕ → Bool) (n : ℕ) (ns : List ℕ) (b : Bool) → test n ≡ b → (list_any test ns ≡ true → (m : ℕ) × (test m ≡ true))
    → (b || list_any test ns) ≡ true → (m : ℕ) × (test m ≡ true)
found_front test n ns true is behind any = (n, is)
found_front test n ns false is behind any = behind any

found : (test : ℕ → Bool) (ns : List ℕ) → list_any test ns ≡ true → (n : ℕ) × (test n ≡ true)
found test [] any = absurd cc
found test (n ∷ ns) any = found_front test n ns (test n) refl (found test ns) any

-- and one that passes and is among them is enough
or_true : (a : Bool) → (a || true) ≡ true
or_true true = refl
or_true false = refl

among_front : (test : ℕ → Bool) (n m : ℕ) (ms : List ℕ) (b : Bool) → nat_eq n m ≡ b → test n ≡ true
    → (list_any (nat_eq n) ms ≡ true → list_any test ms ≡ true)
    → (b || list_any (nat_eq n) ms) ≡ true → (test m || list_any test ms) ≡ true
among_front test n m ms true same is behind within =
    ap (λ b. b || list_any test ms) (subst (λ (k : ℕ). test k ≡ true) (eqb-true n m same) is)
among_front test n m ms false same is behind within = ap (λ b. test m || b) (behind within) ∙ or_true (test m)

among : (test : ℕ → Bool) (n : ℕ) (ns : List ℕ) → list_any (nat_eq n) ns ≡ true → test n ≡ true → list_any test ns ≡ true
among test n [] within is = absurd cc
among test n (m ∷ ms) within is = among_front test n m ms (nat_eq n m) refl is (λ behind. among test n ms behind is) within

module _ (tid : Tid) (commits : List (ℕ × Kept)) (busy : List ℕ) (are : AreBusy commits busy) where
  -- whether the slow commit of a number is being decided, and is that of the transaction
  abbrev pub decides : ℕ → Bool
  decides n = option_map_or (does_decide tid) (lookup (nat_eq n) commits) false

  abbrev Undecided : Type 0
  Undecided = (n : ℕ) × (tx : Tx) × (kept : Kept) × (lookup (nat_eq n) commits ≡ Some kept) × (kept.tx ≡ Some tx) × (same_tid tid tx.tid ≡ true)

  one_of : (n : ℕ) (o : Option Kept) → lookup (nat_eq n) commits ≡ o → option_map_or (does_decide tid) o false ≡ true → Undecided
  one_of n None at is = absurd cc
  one_of n (Some kept) at is = let d = decides_one tid kept is in (n, d.0, kept, at, d.1, d.2)

  any_of : Undecided → list_any decides busy ≡ true
  any_of w =
      let n = w.0 in
      let kept = w.2 in
      let decided : does_decide tid kept ≡ true = ap (λ (o : Option Tx). option_map_or (λ tx. same_tid tid tx.tid) o false) w.4 ∙ w.5 in
      let passes : decides n ≡ true = ap (λ (o : Option Kept). option_map_or (does_decide tid) o false) w.3 ∙ decided in
      let is : is_busy (Some kept) ≡ true = ap (λ (o : Option Tx). is_some o || not (list_all (λ site. has_site site kept.heard) kept.asked)) w.4 in
      among decides n busy (are n ∙ (ap is_busy w.3 ∙ is)) passes

  pub has_any : IsTrue (list_any decides busy) ↔ Undecided
  has_any = ((λ any. let f = found decides busy any in one_of f.0 (lookup (nat_eq f.0) commits) refl f.1), any_of)
