-- Elements of lists by their places, and lists whose first elements were taken.
use Rattle.std.proofs.Common.{◌≡◌, ℕ, zero, suc, ◌<◌, ◌+◌, ◌-◌, ◌++◌, ◌∷◌, List, [], Some, length, get_or, drop, map, slice_get, refl, ap, ◌∙◌, arith, length-append}
use Rattle.std.specs.Prelude.{option_map}
use Rattle.std.specs.List.{remove}
use Rattle.std.proofs.lemmas.List.{ext_get_or, get_or-drop, drop-drop, length-map, length-drop}
use Rattle.std.proofs.lemmas.Option.{slice_get-map, get_or_from_slice_get}

-- what is left behind the first of a list
module _ {X : Type 0} (xs ys : List X) (n : ℕ) (is : ys ≡ drop n xs) where
  pub left_next : remove ys 0 ≡ drop (n + 1) xs
  left_next = ap (λ zs. drop 1 zs) is ∙ drop-drop 1 n xs

  pub left_first : (x : X) → x ≡ get_or ys 0 x → x ≡ get_or xs n x
  left_first x first = first ∙ ap (λ zs. get_or zs 0 x) is ∙ get_or-drop n xs 0 x ∙ ap (λ m. get_or xs m x) (omega arith)

  pub left_some : n < length xs → 0 < length ys
  left_some lt = omega (arith, lt, ap length is, length-drop n xs)

  pub left_long : length ys ≡ length xs - n
  left_long = ap length is ∙ length-drop n xs

module _ {X : Type 0} where
  pub at_place : (xs : List X) (i : ℕ) → i < length xs → (x : X) × (slice_get xs i ≡ Some x)
  at_place [] i lt = absurd (omega (arith, lt))
  at_place (x ∷ xs) zero lt = (x, refl)
  at_place (x ∷ xs) (suc i) lt = at_place xs i (omega (arith, lt))

  pub slice_get_behind : (xs ys : List X) (i j : ℕ) → i ≡ length xs + j → slice_get (xs ++ ys) i ≡ slice_get ys j
  slice_get_behind [] ys i j is = ap (slice_get ys) (omega (arith, is))
  slice_get_behind (x ∷ xs) ys zero j is = absurd (omega (arith, is))
  slice_get_behind (x ∷ xs) ys (suc i) j is = slice_get_behind xs ys i j (omega (arith, is))

  pub slice_get-drop : (xs : List X) (n i j : ℕ) → i ≡ n + j → slice_get (drop n xs) j ≡ slice_get xs i
  slice_get-drop xs zero i j is = ap (slice_get xs) (omega (arith, is))
  slice_get-drop [] (suc n) i j is = refl
  slice_get-drop (x ∷ xs) (suc n) zero j is = absurd (omega (arith, is))
  slice_get-drop (x ∷ xs) (suc n) (suc i) j is = slice_get-drop xs n i j (omega (arith, is))

-- what is so at each place of two lists of one length
pub all_same : {X Y : Type 0} (f : X → Y) (xs : List X) (ys : List Y) (e : Y) → length xs ≡ length ys → ((i : ℕ) (x : X) → i < length xs → slice_get xs i ≡ Some x → f x ≡ get_or ys i e) → map f xs ≡ ys
all_same f xs ys e long each =
    ext_get_or e (map f xs) ys (length-map xs f ∙ long) (λ i lt.
    let within : i < length xs = omega (arith, lt, length-map xs f) in
    let there = at_place xs i within in
    get_or_from_slice_get (map f xs) i (f there.0) e (slice_get-map f xs i ∙ ap (option_map f) there.1) ∙ each i there.0 within there.1)

-- how long a list is that maps to the same as two others
pub map_lengths : {X Y Z : Type 0} (f g : X → Y) (h : Z → Y) (xs ys : List X) (zs : List Z) → map f xs ≡ map g ys ++ map h zs → length xs ≡ length ys + length zs
map_lengths f g h xs ys zs is = omega (arith, ap length is, length-map xs f, length-append (map g ys) (map h zs), length-map ys g, length-map zs h)
