-- Lists with one more element at their end, fronts of lists, and what stands in a list.
use Rattle.std.proofs.Common.{◌≡◌, ℕ, zero, suc, ◌<◌, List, [], ◌∷◌, ◌++◌, length, take, drop, refl, ap, sym, ◌∙◌, subst, arith, slice_get, Some, inl, inr, ◌⊎◌}
use Rattle.std.specs.Prelude.{Contains, flat_map}
use Rattle.std.proofs.lemmas.List.{append-nil, append_assoc, take-append-drop, flat_map_more}
use Rattle.std.proofs.lemmas.List.Elements.{Contains-append_left, Contains-append_right, Contains-append_cases, Contains-push_cases}
use Rattle.std.proofs.lemmas.Option.{slice_get_within, slice_get-get_or, get_or_from_slice_get}

-- nothing stands in the empty list
pub Contains-nil : {X : Type 0} (x : X) → Contains [] x → ⊥
Contains-nil x c = let within : c.0 < 0 = c.1 in omega arith

-- what stands in a list of one element is that element
pub Contains-one : {X : Type 0} (y x : X) → Contains (y ∷ []) x → y ≡ x
Contains-one y x c = elim (Contains-push_cases [] y x c) [ inl none ↦ absurd (Contains-nil x none) | inr same ↦ same ]

-- what stands in a list has a place there
pub place_of : {X : Type 0} (xs : List X) (x : X) → Contains xs x → (place : ℕ) × (slice_get xs place ≡ Some x)
place_of xs x c = (c.0, slice_get-get_or xs c.0 x c.1 ∙ ap (λ y. Some y) c.2)

-- what has a place in a list stands in it
pub contains_at : {X : Type 0} (xs : List X) (x : X) (place : ℕ) → slice_get xs place ≡ Some x → Contains xs x
contains_at xs x place at = (place, slice_get_within xs place x at, get_or_from_slice_get xs place x x at)

-- what stands at a place of a front stands there in the list
pub slice_get-take : {X : Type 0} (xs : List X) (n place : ℕ) → place < n → slice_get (take n xs) place ≡ slice_get xs place
slice_get-take xs zero place l = absurd (omega arith)
slice_get-take [] (suc n) place l = refl
slice_get-take (x ∷ xs) (suc n) zero l = refl
slice_get-take (x ∷ xs) (suc n) (suc place) l = slice_get-take xs n place (omega arith)

-- a place of a front is before its end
pub slice_get-take_within : {X : Type 0} (xs : List X) (n place : ℕ) (x : X) → slice_get (take n xs) place ≡ Some x → place < n
slice_get-take_within xs zero place x at = absurd cc
slice_get-take_within [] (suc n) place x at = absurd cc
slice_get-take_within (y ∷ xs) (suc n) zero x at = omega arith
slice_get-take_within (y ∷ xs) (suc n) (suc place) x at = let l = slice_get-take_within xs n place x at in omega arith

-- what stands in a front stands in the list
pub Contains-take : {X : Type 0} (xs : List X) (n : ℕ) (x : X) → Contains (take n xs) x → Contains xs x
Contains-take xs n x c = subst (λ ys. Contains ys x) (take-append-drop n xs) (Contains-append_left (take n xs) (drop n xs) x c)

-- a place of a list with one more element is one of the list, or the last
pub slice_get-push_cases : {X : Type 0} (xs : List X) (y x : X) (place : ℕ) → slice_get (xs ++ y ∷ []) place ≡ Some x
    → ((place < length xs) × (slice_get xs place ≡ Some x)) ⊎ ((place ≡ length xs) × (y ≡ x))
slice_get-push_cases [] y x zero at = inr (refl, cc)
slice_get-push_cases [] y x (suc place) at = absurd cc
slice_get-push_cases (z ∷ xs) y x zero at = inl (omega arith, at)
slice_get-push_cases (z ∷ xs) y x (suc place) at =
    elim (slice_get-push_cases xs y x place at) [
      | inl before ↦ inl (let l : place < length xs = before.0 in omega arith, before.1)
      | inr last ↦ inr (ap (λ n. suc n) last.0, last.1)
    ]

-- what stands at a place stands there in a longer list
pub slice_get-append_left : {X : Type 0} (xs ys : List X) (x : X) (place : ℕ) → slice_get xs place ≡ Some x
    → slice_get (xs ++ ys) place ≡ Some x
slice_get-append_left [] ys x place at = absurd cc
slice_get-append_left (z ∷ xs) ys x zero at = at
slice_get-append_left (z ∷ xs) ys x (suc place) at = slice_get-append_left xs ys x place at

-- the one more element stands at the old length
pub slice_get-push : {X : Type 0} (xs : List X) (y : X) → slice_get (xs ++ y ∷ []) (length xs) ≡ Some y
slice_get-push [] y = refl
slice_get-push (z ∷ xs) y = slice_get-push xs y

-- what is made of each element, of a list with one more
pub flat_map-push : {X A : Type 0} (f : X → List A) (xs : List X) (x : X) → flat_map f (xs ++ x ∷ []) ≡ flat_map f xs ++ f x
flat_map-push f xs x = sym (flat_map_more f [] xs x)

-- two functions that agree on what stands in a list make the same of it
pub flat_map_agree : {X A : Type 0} (f g : X → List A) (xs : List X) → ((x : X) → Contains xs x → f x ≡ g x)
    → flat_map f xs ≡ flat_map g xs
flat_map_agree f g [] agree = refl
flat_map_agree f g (x ∷ xs) agree =
    let here = agree x (contains_at (x ∷ xs) x 0 refl) in
    let others = flat_map_agree f g xs (λ y c. agree y (Contains-append_right (x ∷ []) xs y c)) in
    (λ i. here i ++ others i)

-- what is made of an element of a list stands in what is made of the list
pub Contains-flat_map : {X A : Type 0} (f : X → List A) (xs : List X) (x : X) (a : A) → Contains xs x → Contains (f x) a
    → Contains (flat_map f xs) a
Contains-flat_map f [] x a c made = absurd (Contains-nil x c)
Contains-flat_map f (y ∷ xs) x a c made =
    elim (Contains-append_cases (y ∷ []) xs x c) [
      | inl here ↦ Contains-append_left (f y) (flat_map f xs) a (subst (λ z. Contains (f z) a) (sym (Contains-one y x here)) made)
      | inr there ↦ Contains-append_right (f y) (flat_map f xs) a (Contains-flat_map f xs x a there made)
    ]

-- what stands in what is made of a list is made of one of its elements
pub Contains-flat_map_from : {X A : Type 0} (f : X → List A) (xs : List X) (a : A) → Contains (flat_map f xs) a
    → (x : X) × Contains xs x × Contains (f x) a
Contains-flat_map_from f [] a c = absurd (Contains-nil a c)
Contains-flat_map_from f (y ∷ xs) a c =
    elim (Contains-append_cases (f y) (flat_map f xs) a c) [
      | inl here ↦ (y, contains_at (y ∷ xs) y 0 refl, here)
      | inr there ↦
          let from = Contains-flat_map_from f xs a there in
          (from.0, Contains-append_right (y ∷ []) xs from.0 from.1, from.2)
    ]

-- what holds of a front, and of each longer one, holds of the list
onward : {X : Type 0} (P : List X → Type 0) → ((xs : List X) (x : X) → P xs → P (xs ++ x ∷ []))
    → (front rest : List X) → P front → P (front ++ rest)
onward P more front [] holds = subst P (sym (append-nil front)) holds
onward P more front (x ∷ rest) holds =
    subst P (append_assoc front (x ∷ []) rest) (onward P more (front ++ x ∷ []) rest (more front x holds))

-- what holds of the empty list, and of a list with one more element at its end where it holds of the list, holds of each
pub push_induction : {X : Type 0} (P : List X → Type 0) → P []
    → ((xs : List X) (x : X) → P xs → P (xs ++ x ∷ [])) → (xs : List X) → P xs
push_induction P none more xs = onward P more [] xs none
