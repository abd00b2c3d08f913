-- Fronts of lists, and the places of what a filter or a function keeps of a list.
use Rattle.std.proofs.Common.{inl, inr, ◌<◌, ◌≡◌, ℕ, zero, suc, ◌≤◌, List, [], ◌∷◌, ◌++◌, length, map, take, refl, ap, sym, ◌∙◌, arith, slice_get, Some, Bool, true, false, if◌then◌else◌}
use Rattle.std.specs.Prelude.{flat_map, filter}
use Rattle.std.proofs.lemmas.Bool.{cases_order}
use Rattle.std.proofs.lemmas.List.{append-nil, append_assoc, length-append, take-append-le}
use Rattle.std.proofs.lemmas.List.Elements.{filter-append}
use Rattle.walter_psi.proofs.Lists.{slice_get-append_left}

-- the first list is a front of the second
pub record IsPrefix {X : Type 0} (xs ys : List X) : Type 0 where
  pub rest : List X
  pub is : ys ≡ xs ++ rest

-- a list is a front of itself
pub prefix_refl : {X : Type 0} (xs : List X) → IsPrefix xs xs
prefix_refl xs = record { rest = []; is = sym (append-nil xs) }

-- and of itself with one more element
pub prefix_more : {X : Type 0} (xs : List X) (y : X) → IsPrefix xs (xs ++ y ∷ [])
prefix_more xs y = record { rest = y ∷ []; is = refl }

-- a front of a front is a front
pub prefix_trans : {X : Type 0} {xs ys zs : List X} → IsPrefix xs ys → IsPrefix ys zs → IsPrefix xs zs
prefix_trans {xs = xs} {ys = ys} {zs = zs} p q =
    record { rest = p.rest ++ q.rest; is = q.is ∙ (ap (λ t. t ++ q.rest) p.is ∙ append_assoc xs p.rest q.rest) }

-- a front is no longer than the list
pub prefix_length : {X : Type 0} (xs ys : List X) → IsPrefix xs ys → length xs ≤ length ys
prefix_length xs ys p = omega (arith, ap length p.is, length-append xs p.rest)

-- what stands at a place of a front stands there in the list
pub prefix_get : {X : Type 0} (xs ys : List X) (x : X) (n : ℕ) → IsPrefix xs ys → slice_get xs n ≡ Some x
    → slice_get ys n ≡ Some x
prefix_get xs ys x n p h = ap (λ t. slice_get t n) p.is ∙ slice_get-append_left xs p.rest x n h

-- as many of the list as a front has are the front's
pub prefix_take : {X : Type 0} (xs ys : List X) (n : ℕ) → IsPrefix xs ys → n ≤ length xs → take n ys ≡ take n xs
prefix_take xs ys n p l = ap (λ t. take n t) p.is ∙ take-append-le n xs p.rest l

-- what stands right behind a front is the first of the rest
rest_begins : {X : Type 0} (xs rest : List X) (y : X) → slice_get (xs ++ rest) (length xs) ≡ Some y
    → (more : List X) × (rest ≡ y ∷ more)
rest_begins [] [] y h = absurd cc
rest_begins [] (z ∷ rest) y h = (rest, ap (λ t. t ∷ rest) (cc))
rest_begins (x ∷ xs) rest y h = rest_begins xs rest y h

-- a front with what stands right behind it is a front
pub prefix_push : {X : Type 0} (xs ys : List X) (y : X) → IsPrefix xs ys → slice_get ys (length xs) ≡ Some y
    → IsPrefix (xs ++ y ∷ []) ys
prefix_push xs ys y p h =
    let r = rest_begins xs p.rest y (ap (λ t. slice_get t (length xs)) (sym p.is) ∙ h) in
    record { rest = r.0; is = p.is ∙ (ap (λ t. xs ++ t) r.1 ∙ sym (append_assoc xs (y ∷ []) r.0)) }

-- what a list has at a place within its front, the front has
front_has : {X : Type 0} (xs rest : List X) (x : X) (n : ℕ) → n < length xs → slice_get (xs ++ rest) n ≡ Some x
    → slice_get xs n ≡ Some x
front_has [] rest x n l h = absurd (omega arith)
front_has (z ∷ xs) rest x zero l h = h
front_has (z ∷ xs) rest x (suc n) l h = front_has xs rest x n (omega arith) h

-- so the front has what stands at a place within it
pub prefix_back : {X : Type 0} (xs ys : List X) (x : X) (n : ℕ) → IsPrefix xs ys → n < length xs
    → slice_get ys n ≡ Some x → slice_get xs n ≡ Some x
prefix_back xs ys x n p l h = front_has xs p.rest x n l (ap (λ t. slice_get t n) (sym p.is) ∙ h)

-- a filter keeps one more element that passes
pub filter_push_kept : {X : Type 0} (p : X → Bool) (xs : List X) (y : X) → p y ≡ true
    → filter p (xs ++ y ∷ []) ≡ filter p xs ++ y ∷ []
filter_push_kept p xs y h = filter-append p xs (y ∷ []) ∙ rw h refl

-- and leaves out one that doesn't
pub filter_push_left : {X : Type 0} (p : X → Bool) (xs : List X) (y : X) → p y ≡ false
    → filter p (xs ++ y ∷ []) ≡ filter p xs
filter_push_left p xs y h = filter-append p xs (y ∷ []) ∙ rw h (append-nil (filter p xs))

-- the order of two filters doesn't matter
pub filter_both : {X : Type 0} (p q : X → Bool) (xs : List X) → filter p (filter q xs) ≡ filter q (filter p xs)
filter_both p q [] = refl
filter_both p q (x ∷ xs) =
    elim (p x) as
    (λ b. p x ≡ b
    → filter p (if q x then x ∷ filter q xs else filter q xs) ≡ filter q (if b then x ∷ filter p xs else filter p xs)) [
      | true ↦ λ hp. elim (q x) as
          (λ c. q x ≡ c
          → filter p (if c then x ∷ filter q xs else filter q xs)
          ≡ (if c then x ∷ filter q (filter p xs) else filter q (filter p xs))) [
            | true ↦ λ hq. rw hp (ap (λ t. x ∷ t) (filter_both p q xs))
            | false ↦ λ hq. filter_both p q xs
          ] refl
      | false ↦ λ hp. elim (q x) as
          (λ c. q x ≡ c → filter p (if c then x ∷ filter q xs else filter q xs) ≡ filter q (filter p xs)) [
            | true ↦ λ hq. rw hp (filter_both p q xs)
            | false ↦ λ hq. filter_both p q xs
          ] refl
    ] refl

-- a filter of images is the images of a filter
pub filter_of_map : {X Y : Type 0} (p : Y → Bool) (f : X → Y) (xs : List X)
    → filter p (map f xs) ≡ map f (filter (λ x. p (f x)) xs)
filter_of_map p f [] = refl
filter_of_map p f (x ∷ xs) =
    elim (p (f x)) as
    (λ b. (if b then f x ∷ filter p (map f xs) else filter p (map f xs)) ≡ map f
    (if b then x ∷ filter (λ y. p (f y)) xs else filter (λ y. p (f y)) xs)) [
      | true ↦ ap (λ t. f x ∷ t) (filter_of_map p f xs)
      | false ↦ filter_of_map p f xs
    ]

-- what a filter kept passes, and stood in the list with as many kept before it as its place says
pub filter_place : {X : Type 0} (p : X → Bool) (xs : List X) (x : X) (m : ℕ) → slice_get (filter p xs) m ≡ Some x
    → (a : ℕ) × (slice_get xs a ≡ Some x) × (p x ≡ true) × (length (filter p (take a xs)) ≡ m)
filter_place p [] x m h = absurd cc
filter_place p (z ∷ xs) x m h =
    elim (p z) as
    (λ b. p z ≡ b → slice_get (if b then z ∷ filter p xs else filter p xs) m ≡ Some x
    → (a : ℕ) × (slice_get (z ∷ xs) a ≡ Some x) × (p x ≡ true) × (length (filter p (take a (z ∷ xs))) ≡ m)) [
      | true ↦ λ is h. elim m as
          (λ k. slice_get (z ∷ filter p xs) k ≡ Some x
          → (a : ℕ) × (slice_get (z ∷ xs) a ≡ Some x) × (p x ≡ true) × (length (filter p (take a (z ∷ xs))) ≡ k)) [
            | zero ↦ λ g. let e : z ≡ x = cc in (0, g, ap p (sym e) ∙ is, refl)
            | suc k ↦ λ g. let r = filter_place p xs x k g in (suc r.0, r.1, r.2, rw is (ap (λ n. suc n) r.3))
          ] h
      | false ↦ λ is h. let r = filter_place p xs x m h in (suc r.0, r.1, r.2, rw is r.3)
    ] refl h

-- what stands in the list and passes is kept, as many places in as are kept before it
pub place_filtered : {X : Type 0} (p : X → Bool) (xs : List X) (x : X) (a : ℕ) → slice_get xs a ≡ Some x → p x ≡ true
    → slice_get (filter p xs) (length (filter p (take a xs))) ≡ Some x
place_filtered p [] x a h is = absurd cc
place_filtered p (z ∷ xs) x zero h is = let e : z ≡ x = cc in rw (ap p e ∙ is) h
place_filtered p (z ∷ xs) x (suc a) h is =
    let r = place_filtered p xs x a h is in
    elim (p z) as
    (λ b. slice_get (if b then z ∷ filter p xs else filter p xs)
    (length (if b then z ∷ filter p (take a xs) else filter p (take a xs))) ≡ Some x) [ true ↦ r | false ↦ r ]

-- of a list whose first element passes at least one is kept
one_kept : {X : Type 0} (p : X → Bool) (z : X) (xs : List X) → p z ≡ true → 0 < length (filter p (z ∷ xs))
one_kept p z xs is = rw is (omega arith)

-- before a later place more are kept
pub more_kept : {X : Type 0} (p : X → Bool) (xs : List X) (x : X) (a b : ℕ) → a < b → slice_get xs a ≡ Some x
    → p x ≡ true → length (filter p (take a xs)) < length (filter p (take b xs))
more_kept p xs x a zero l h is = absurd (omega arith)
more_kept p [] x a (suc b) l h is = absurd cc
more_kept p (z ∷ xs) x zero (suc b) l h is = let e : z ≡ x = cc in one_kept p z (take b xs) (ap p e ∙ is)
more_kept p (z ∷ xs) x (suc a) (suc b) l h is =
    let r = more_kept p xs x a b (omega arith) h is in
    elim (p z) as
    (λ c. length (if c then z ∷ filter p (take a xs) else filter p (take a xs)) < length
    (if c then z ∷ filter p (take b xs) else filter p (take b xs))) [ true ↦ omega (arith, r) | false ↦ r ]

-- what is kept is kept in order
pub filter_order : {X : Type 0} (p : X → Bool) (xs : List X) (x y : X) (m n : ℕ) → m < n
    → slice_get (filter p xs) m ≡ Some x → slice_get (filter p xs) n ≡ Some y
    → (a : ℕ) × (b : ℕ) × (a < b) × (slice_get xs a ≡ Some x) × (slice_get xs b ≡ Some y)
filter_order p xs x y m n l hx hy =
    let u = filter_place p xs x m hx in
    let w = filter_place p xs y n hy in
    elim (cases_order u.0 w.0) [
      | inl same ↦ let e = ap (λ k. length (filter p (take k xs))) same in let u2 = u.3 in let w2 = w.3 in
          absurd (omega (arith, l, e, u2, w2))
      | inr r ↦ elim r [
        | inl before ↦ (u.0, w.0, before, u.1, w.1)
        | inr after ↦ let g = more_kept p xs y w.0 u.0 after w.1 w.2 in let u2 = u.3 in let w2 = w.3 in
            absurd (omega (arith, l, g, u2, w2))
      ]
    ]

-- what stands at a place of the images is the image of what stands there
pub map_place : {X Y : Type 0} (f : X → Y) (xs : List X) (y : Y) (n : ℕ) → slice_get (map f xs) n ≡ Some y
    → (x : X) × (slice_get xs n ≡ Some x) × (f x ≡ y)
map_place f [] y n h = absurd cc
map_place f (x ∷ xs) y zero h = (x, refl, cc)
map_place f (x ∷ xs) y (suc n) h = map_place f xs y n h

-- and the other way round
pub place_mapped : {X Y : Type 0} (f : X → Y) (xs : List X) (x : X) (n : ℕ) → slice_get xs n ≡ Some x
    → slice_get (map f xs) n ≡ Some (f x)
place_mapped f [] x n h = absurd cc
place_mapped f (y ∷ xs) x zero h = let e : y ≡ x = cc in ap (λ z. Some (f z)) e
place_mapped f (y ∷ xs) x (suc n) h = place_mapped f xs x n h

-- one more is taken
pub take_push : {X : Type 0} (xs : List X) (n : ℕ) (x : X) → slice_get xs n ≡ Some x
    → take (suc n) xs ≡ take n xs ++ x ∷ []
take_push [] n x h = absurd cc
take_push (y ∷ xs) zero x h = let e : y ≡ x = cc in ap (λ z. z ∷ []) e
take_push (y ∷ xs) (suc n) x h = ap (λ t. y ∷ t) (take_push xs n x h)

-- what is made of each element is made of its image
pub flat_map_same : {X Y A : Type 0} (f : X → List A) (g : Y → List A) (t : X → Y) (xs : List X)
    → ((n : ℕ) (x : X) → slice_get xs n ≡ Some x → f x ≡ g (t x)) → flat_map f xs ≡ flat_map g (map t xs)
flat_map_same f g t [] h = refl
flat_map_same f g t (x ∷ xs) h =
    let e = h 0 x refl in rw e (ap (λ z. g (t x) ++ z) (flat_map_same f g t xs (λ n y l. h (suc n) y l)))
