-- Lists of values that spell items one by one.
use Rattle.std.proofs.Common.{◌≡◌, ◌≢◌, ℕ, zero, suc, ◌+◌, ◌<◌, ◌≤◌, List, [], ◌∷◌, ◌++◌, length, map, take, get_or, All, refl, sym, ap, ◌∙◌, subst, arith, add-one}
use Rattle.std.specs.List.{HoldsAt}
use Rattle.std.proofs.lemmas.List.{take_more, take-take, take-map, map-append, get_or-map}
use Rattle.std.proofs.lemmas.List.Elements.{All-head, All-tail}
use Rattle.serde_json.specs.Data.{Data, null}
use Rattle.serde_json.specs.View.{view, items_of}
use Rattle.serde_json.specs.declared.value.Value.{Value}

-- what holds of a value that was read holds of the data at its place
pub seen_at : (P : Data → Type 0) (vs : List Value) (i : ℕ) (v : Value) → i < length vs → v ≡ get_or vs i v → P (view v)
    → HoldsAt P (map view vs) i
seen_at P vs i v h is p d = subst P (ap view is ∙ sym (get_or-map view vs i v d h)) p

-- one more item is spelled
pub one_more : {A : Type 0} (f : A → Data) (values : List Data) (i : ℕ) (xs : List A) (x : A) → i < length values
    → take i values ≡ map f xs
    → HoldsAt (λ d. d ≡ f x) values i → take (i + 1) values ≡ map f (xs ++ x ∷ [])
one_more f values i xs x h e is =
    take_more values i (f x) h ∙ (λ j. e j ++ is (f x) j ∷ []) ∙ sym (map-append f xs (x ∷ []))

item_at : {A : Type 0} (f : A → Data) (P : A → Type 0) (values : List Data) (i : ℕ) (d : Data) (xs : List A)
    → i < length values
    → take (suc i) values ≡ map f xs → All P xs → (x : A) × P x × (get_or values i d ≡ f x)
item_at f P [] i d xs h e all = absurd (omega arith)
item_at f P (v ∷ vs) i d [] h e all = absurd cc
item_at f P (v ∷ vs) zero d (x ∷ xs) h e all = (x, All-head P x xs all, cc)
item_at f P (v ∷ vs) (suc i) d (x ∷ xs) h e all =
    let later : take (suc i) vs ≡ map f xs = cc in
    item_at f P vs i d xs (omega arith) later (All-tail P x xs all)

-- where the value at a place spells no item, the values to it spell none
pub no_more : {A : Type 0} (f : A → Data) (P : A → Type 0) (values : List Data) (i : ℕ) (xs : List A)
    → i < length values
    → take (i + 1) values ≡ map f xs → All P xs → HoldsAt (λ d. (x : A) → P x → d ≢ f x) values i → ⊥
no_more f P values i xs h e all none =
    let at = item_at f P values i null xs h (rw add-one at e) all in
    none null at.0 at.1 at.2

-- the items in front are spelled by the values in front
pub spelled_front : {A : Type 0} (f : A → Data) (values : List Data) (n : ℕ) (xs : List A) → n ≤ length xs
    → take (length xs) values ≡ map f xs
    → take n values ≡ map f (take n xs)
spelled_front f values n xs h e = sym (take-take n (length xs) values h) ∙ ap (λ vs. take n vs) e ∙ take-map f n xs

-- where items are told apart by their spellings, lists of them are too
pub same_items : {A : Type 0} (f : A → Data) (P : A → Type 0) → ((x y : A) → P x → P y → f x ≡ f y → x ≡ y)
    → (xs ys : List A) → All P xs → All P ys
    → map f xs ≡ map f ys → xs ≡ ys
same_items f P apart [] [] a b e = refl
same_items f P apart [] (y ∷ ys) a b e = cc
same_items f P apart (x ∷ xs) [] a b e = cc
same_items f P apart (x ∷ xs) (y ∷ ys) a b e =
    let first : f x ≡ f y = cc in
    let others : map f xs ≡ map f ys = cc in
    let here = apart x y (All-head P x xs a) (All-head P y ys b) first in
    let there = same_items f P apart xs ys (All-tail P x xs a) (All-tail P y ys b) others in
    λ j. here j ∷ there j

-- an array has one list of values
pub same_values : (a b : List Data) → items_of a ≡ items_of b → a ≡ b
same_values [] [] e = refl
same_values [] (y ∷ ys) e = cc
same_values (x ∷ xs) [] e = cc
same_values (x ∷ xs) (y ∷ ys) e =
    let here : x ≡ y = cc in
    let later : items_of xs ≡ items_of ys = cc in
    let there = same_values xs ys later in
    λ j. here j ∷ there j
