-- The word that a long flag is read from.
use Rattle.std.proofs.Common.{◌≡◌, ◌∙◌, ◌==◌, ℕ, Bool, true, false, [], ◌∷◌, ◌++◌, Option, Some, None, refl, sym, ap}
use native.Mathlib.Numerals.{one-add, unary_clauses}
use Rattle.std.specs.List.{after_first, before_first}
use Rattle.std.specs.Prelude.{unwrap_or}
use Rattle.std.proofs.lemmas.Bool.{eqb-true}
use Rattle.clap.specs.Lexer.{has_byte, long_of, name_and_value}
use Rattle.clap.specs.Walk.{Text}

pub same_some : {X : Type 0} (x y : X) → Some x ≡ Some y → x ≡ y
same_some x y e = ap (λ o. unwrap_or o x) e

-- a text without `=` is all before the first one, and one with it is what stands before and behind
cut_none : (t : Text) → has_byte 61 t ≡ false → before_first (λ x. x == 61) t ≡ t
cut_none [] e = refl
cut_none (x ∷ xs) e = go (x == 61) refl (cut_none xs)
  where
    go : (b : Bool) → (x == 61) ≡ b → (has_byte 61 xs ≡ false → before_first (λ x. x == 61) xs ≡ xs) → before_first (λ x. x == 61) (x ∷ xs) ≡ x ∷ xs
    go true is below = let bad : true ≡ false = rw is at e in cc
    go false is below = let rest = below (rw is at e) in rw is (simp one-add (ap (λ t. x ∷ t) rest))

cut_some : (t : Text) → has_byte 61 t ≡ true → t ≡ before_first (λ x. x == 61) t ++ 61 ∷ after_first (λ x. x == 61) t
cut_some [] e = cc
cut_some (x ∷ xs) e = go (x == 61) refl (cut_some xs)
  where
    go : (b : Bool) → (x == 61) ≡ b → (has_byte 61 xs ≡ true → xs ≡ before_first (λ x. x == 61) xs ++ 61 ∷ after_first (λ x. x == 61) xs) → x ∷ xs ≡ before_first (λ x. x == 61) (x ∷ xs) ++ 61 ∷ after_first (λ x. x == 61) (x ∷ xs)
    go true is below = rw is (ap (λ y. y ∷ xs) (eqb-true x 61 is))
    go false is below = let rest = ap (λ t. x ∷ t) (below (rw is at e)) in rw is (simp (one-add, unary_clauses) (simp unary_clauses at rest))

parts_none : (t name : Text) → name_and_value t ≡ (name, None) → t ≡ name
parts_none t name e = go (has_byte 61 t) refl
  where
    go : (b : Bool) → has_byte 61 t ≡ b → t ≡ name
    go true is = let bad : Some (after_first (λ x. x == 61) t) ≡ None = rw is at (ap (λ p. p.1) e) in cc
    go false is = sym (cut_none t is) ∙ ap (λ p. p.0) e

parts_some : (t name v : Text) → name_and_value t ≡ (name, Some v) → t ≡ name ++ 61 ∷ v
parts_some t name v e = go (has_byte 61 t) refl
  where
    go : (b : Bool) → has_byte 61 t ≡ b → t ≡ name ++ 61 ∷ v
    go true is =
        let behind : Some (after_first (λ x. x == 61) t) ≡ Some v = rw is at (ap (λ p. p.1) e) in
        cut_some t is ∙ (ap (λ n. n ++ 61 ∷ after_first (λ x. x == 61) t) (ap (λ p. p.0) e) ∙ ap (λ w. name ++ 61 ∷ w) (same_some _ _ behind))
    go false is = let bad : None ≡ Some v = rw is at (ap (λ p. p.1) e) in cc

-- a word with a long name is the two hyphens with a text behind
long_text : (word : Text) (p : Text × Option Text) → long_of word ≡ Some p → (t : Text) × (word ≡ 45 ∷ 45 ∷ t) × (name_and_value t ≡ p)
long_text [] p e = cc
long_text (x ∷ xs) p e = one (x == 45) refl xs e
  where
    two : (x ≡ 45) → (y : ℕ) (ys : Text) (b : Bool) → (y == 45) ≡ b → long_of (45 ∷ y ∷ ys) ≡ Some p → (t : Text) × (x ∷ y ∷ ys ≡ 45 ∷ 45 ∷ t) × (name_and_value t ≡ p)
    two first y [] true is f = let bad : None ≡ Some p = rw is at f in cc
    two first y (z ∷ zs) true is f =
        let same : Some (name_and_value (z ∷ zs)) ≡ Some p = rw is at f in
        (z ∷ zs, ap (λ a. a ∷ y ∷ z ∷ zs) first ∙ ap (λ a. 45 ∷ a ∷ z ∷ zs) (eqb-true y 45 is), same_some _ _ same)
    two first y ys false is f = let bad : None ≡ Some p = rw is at f in cc

    one : (b : Bool) → (x == 45) ≡ b → (ys : Text) → long_of (x ∷ ys) ≡ Some p → (t : Text) × (x ∷ ys ≡ 45 ∷ 45 ∷ t) × (name_and_value t ≡ p)
    one true is [] f = let bad : None ≡ Some p = rw is at f in cc
    one true is (y ∷ ys) f = two (eqb-true x 45 is) y ys (y == 45) refl (rw (eqb-true x 45 is) at f)
    one false is ys f = let bad : None ≡ Some p = rw is at f in cc

pub long_without : (word name : Text) → long_of word ≡ Some (name, None) → word ≡ 45 ∷ 45 ∷ name
long_without word name e =
    let t = long_text word (name, None) e in
    t.1 ∙ ap (λ n. 45 ∷ 45 ∷ n) (parts_none t.0 name t.2)

pub long_with : (word name v : Text) → long_of word ≡ Some (name, Some v) → word ≡ 45 ∷ 45 ∷ (name ++ 61 ∷ v)
long_with word name v e =
    let t = long_text word (name, Some v) e in
    t.1 ∙ ap (λ n. 45 ∷ 45 ∷ n) (parts_some t.0 name v t.2)
