-- What is so of the first lines stays so where a line behind them changes, and where two lines change places.
use Rattle.std.proofs.Common.{◌≡◌, ℕ, zero, suc, ◌+◌, ◌<◌, ◌≤◌, Bool, true, false, cond, List, [], ◌∷◌, ◌++◌, Some, slice_get, length, get_or, refl, ap, sym, ◌∙◌, subst, inl, inr, arith}
use Rattle.std.proofs.lemmas.Bool.{cases_lt}
use Rattle.std.proofs.lemmas.Bool.Decides.{nat_tests}
use Rattle.std.proofs.lemmas.List.{get_or-take, get_or_append_left, length-append, length-take-le}
use Rattle.std.proofs.lemmas.List.Edits.{length-swap}
use Rattle.std.proofs.lemmas.Option.{slice_get-get_or, slice_get_cases}
use Rattle.std.proofs.lemmas.Map.{length-set_value}
use Rattle.std.specs.List.{swap}
use Rattle.std.specs.Map.{lookup, set_value}
use Rattle.indexmap.specs.IndexMap.{set_value_at}
use Rattle.indexmap.specs.Layout.{length-set_value_at}
use Rattle.indexmap.proofs.ReorderLemmas.{exchange, exchange-within, get_or-swap}
use Rattle.walter_base.specs.declared.names.ObjId.{ObjId}
use Rattle.walter_history.specs.declared.line.Line.{Line as Held}
use Rattle.walter_history.specs.Kept.{Kept}
use Rattle.walter_history.specs.Lines.{kept_by, AreFirst}

-- what the line at a place keeps
abbrev KeepsAt : (Kept → Type 0) → List (ObjId × Held) → ℕ → Type 0
KeepsAt P es k = (d : ObjId × Held) → P (kept_by (get_or es k d).1)

at_place : (P : Kept → Type 0) (n : ℕ) (es : List (ObjId × Held)) → AreFirst P n es → (k : ℕ) → k < n → KeepsAt P es k
at_place P n es first k below d =
    subst (λ (e : ObjId × Held). P (kept_by e.1)) (get_or-take n es k d below) (first.each k d (omega (arith, below, length-take-le n es first.within)))

from_places : (P : Kept → Type 0) (n : ℕ) (es : List (ObjId × Held)) → n ≤ length es → ((k : ℕ) → k < n → KeepsAt P es k) → AreFirst P n es
from_places P n es within each = record {
  within = within;
  each = λ k d below.
      let short : k < n = omega (arith, below, length-take-le n es within) in
      subst (λ (e : ObjId × Held). P (kept_by e.1)) (sym (get_or-take n es k d short)) (each k short d);
}

-- fewer lines
pub fewer : (P : Kept → Type 0) (m n : ℕ) (es : List (ObjId × Held)) → m ≤ n → AreFirst P n es → AreFirst P m es
fewer P m n es less first =
    from_places P m es (omega (arith, less, first.within)) (λ k below. at_place P n es first k (omega (arith, below, less)))

-- there are more behind them
pub append_behind : (P : Kept → Type 0) (n : ℕ) (es more : List (ObjId × Held)) → AreFirst P n es → AreFirst P n (es ++ more)
append_behind P n es more first =
    from_places P n (es ++ more) (omega (arith, first.within, length-append es more))
    (λ k below d. subst (λ (e : ObjId × Held). P (kept_by e.1)) (sym (get_or_append_left es more d k (omega (arith, below, first.within)))) (at_place P n es first k below d))

-- an object's line gets a value that keeps the same
same_at : (test : ObjId → Bool) (es : List (ObjId × Held)) (was v : Held) → lookup test es ≡ Some was → kept_by v ≡ kept_by was → (k : ℕ) (d : ObjId × Held)
    → kept_by (get_or (set_value test es v) k d).1 ≡ kept_by (get_or es k d).1
same_at test [] was v is same k d = refl
same_at test (e ∷ es) was v is same zero d =
    elim (test e.0) as (λ b. cond b (Some e.1) (lookup test es) ≡ Some was → kept_by (get_or (cond b ((e.0, v) ∷ es) (e ∷ set_value test es v)) 0 d).1 ≡ kept_by e.1) [
      | true ↦ λ h. let here : e.1 ≡ was = cc in same ∙ ap kept_by (sym {A = Held} here)
      | false ↦ λ h. refl
    ] is
same_at test (e ∷ es) was v is same (suc k) d =
    elim (test e.0) as (λ b. cond b (Some e.1) (lookup test es) ≡ Some was → kept_by (get_or (cond b ((e.0, v) ∷ es) (e ∷ set_value test es v)) (suc k) d).1 ≡ kept_by (get_or es k d).1) [
      | true ↦ λ h. refl
      | false ↦ λ h. same_at test es was v h same k d
    ] is

pub set_same : (P : Kept → Type 0) (n : ℕ) (es : List (ObjId × Held)) → AreFirst P n es → (test : ObjId → Bool) (was v : Held) → lookup test es ≡ Some was → kept_by v ≡ kept_by was
    → AreFirst P n (set_value test es v)
set_same P n es first test was v is same =
    from_places P n (set_value test es v) (omega (arith, first.within, length-set_value test es v))
    (λ k below d. subst P (sym {A = Kept} (same_at test es was v is same k d)) (at_place P n es first k below d))

-- one line gets another value
set_other : (es : List (ObjId × Held)) (i k : ℕ) (w : Held) (d : ObjId × Held) → k < i → get_or (set_value_at es i w) k d ≡ get_or es k d
set_other [] i k w d below = refl
set_other (e ∷ es) zero k w d below = absurd (omega (arith, below))
set_other (e ∷ es) (suc i) zero w d below = refl
set_other (e ∷ es) (suc i) (suc k) w d below = set_other es i k w d (omega (arith, below))

set_here : (es : List (ObjId × Held)) (i : ℕ) (w : Held) (d : ObjId × Held) → i < length es → (get_or (set_value_at es i w) i d).1 ≡ w
set_here [] i w d below = absurd (omega (arith, below))
set_here (e ∷ es) zero w d below = refl
set_here (e ∷ es) (suc i) w d below = set_here es i w d (omega (arith, below))

module _ (P : Kept → Type 0) (n : ℕ) (es : List (ObjId × Held)) (first : AreFirst P n es) where
  -- behind them
  pub set_behind : (i : ℕ) (w : Held) → n ≤ i → AreFirst P n (set_value_at es i w)
  set_behind i w behind =
      from_places P n (set_value_at es i w) (omega (arith, first.within, length-set_value_at es i w))
      (λ k below d. subst (λ (e : ObjId × Held). P (kept_by e.1)) (sym (set_other es i k w d (omega (arith, below, behind)))) (at_place P n es first k below d))

  -- just behind them, so that there is one more
  pub set_next : (w : Held) → n < length es → P (kept_by w) → AreFirst P (n + 1) (set_value_at es n w)
  set_next w within here =
      from_places P (n + 1) (set_value_at es n w) (omega (arith, within, length-set_value_at es n w))
      (λ k below. elim (cases_lt k n) [
        | inl less ↦ at_place P n (set_value_at es n w) (set_behind n w (omega arith)) k less
        | inr more ↦ λ d.
            let same : n ≡ k = omega (arith, below, more) in
            subst (λ j. P (kept_by (get_or (set_value_at es n w) j d).1)) same
            (subst (λ (h : Held). P (kept_by h)) (sym {A = Held} (set_here es n w d within)) here)
      ])

  -- two of them change places
  pub swap_within : (a b : ℕ) → a < n → b < n → AreFirst P n (swap es a b)
  swap_within a b first_a first_b =
      from_places P n (swap es a b) (omega (arith, first.within, length-swap es a b))
      (λ k below d. subst (λ (e : ObjId × Held). P (kept_by e.1))
      (sym (get_or-swap es a b d (omega (arith, first_a, first.within)) (omega (arith, first_b, first.within)) k))
      (at_place P n es first (exchange a b k) (exchange-within a b n k first_a first_b below) d))

  -- one more comes from behind them
  swap_next : (b : ℕ) → n ≤ b → b < length es → KeepsAt P es b → AreFirst P (n + 1) (swap es n b)
  swap_next b behind within here =
      from_places P (n + 1) (swap es n b) (omega (arith, behind, within, length-swap es n b))
      (λ k below d. subst (λ (e : ObjId × Held). P (kept_by e.1)) (sym (get_or-swap es n b d (omega (arith, behind, within)) within k))
      (elim (cases_lt k n) [
        | inl less ↦
            let same : k ≡ exchange n b k = grind (arith, nat_tests) in
            subst (λ j. P (kept_by (get_or es j d).1)) same (at_place P n es first k less d)
        | inr more ↦
            let same : b ≡ exchange n b k = grind (arith, nat_tests) in
            subst (λ j. P (kept_by (get_or es j d).1)) same (here d)
      ]))

-- one more comes from behind them, with another value
pub set_swap : (P : Kept → Type 0) (n : ℕ) (es : List (ObjId × Held)) → AreFirst P n es → (i : ℕ) (w : Held) → n ≤ i → i < length es → P (kept_by w)
    → AreFirst P (n + 1) (swap (set_value_at es i w) n i)
set_swap P n es first i w behind within here =
    swap_next P n (set_value_at es i w) (set_behind P n es first i w behind) i behind (omega (arith, within, length-set_value_at es i w))
    (λ d. subst (λ (h : Held). P (kept_by h)) (sym {A = Held} (set_here es i w d within)) here)

-- the second of two that changed places
pub at_swapped : {X : Type 0} (xs : List X) (a b : ℕ) → a < length xs → b < length xs → slice_get (swap xs a b) b ≡ slice_get xs a
at_swapped xs a b within_a within_b = elim (slice_get_cases xs a).1 [
  | inl at ↦
      let same : exchange a b b ≡ a = grind (arith, nat_tests) in
      slice_get-get_or (swap xs a b) b at.0 (omega (arith, within_b, length-swap xs a b))
      ∙ ap Some (get_or-swap xs a b at.0 within_a within_b b ∙ ap (λ k. get_or xs k at.0) same)
      ∙ sym (slice_get-get_or xs a at.0 within_a)
  | inr past ↦ absurd (omega (arith, within_a, past.0))
]
