-- Lists in which one element or two are others, and what is read of their elements.
use Rattle.std.proofs.Common.{◌≡◌, ◌≢◌, ℕ, zero, suc, ◌<◌, ◌≤◌, List, [], ◌∷◌, ◌++◌, length, map, get_or, set, slice_get, refl, ap, sym, ◌∙◌, arith, Some, None, option_map, inl, inr}
use Rattle.std.specs.Prelude.{slice_index_or, unwrap_or}
use Rattle.std.proofs.lemmas.Bool.{cases_lt, cases_eq}
use Rattle.std.proofs.lemmas.List.{length-map, length-set, length-append, get_or-set_same, get_or-set_other, get_or_past, set-append_left, set_at, set_comm, get_or_append_left, get_or_at}
use Rattle.std.proofs.lemmas.Option.{slice_get-map, slice_get-get_or, slice_get_past, slice_get_within, unwrap_or-slice_get, slice_get_read}

module _ {X : Type 0} where
  -- lists with the same elements are the same
  pub same_places : (xs ys : List X) → ((k : ℕ) → slice_get xs k ≡ slice_get ys k) → xs ≡ ys
  same_places [] [] all = refl
  same_places [] (y ∷ ys) all = let e : None ≡ Some y = all 0 in absurd cc
  same_places (x ∷ xs) [] all = let e : Some x ≡ None = all 0 in absurd cc
  same_places (x ∷ xs) (y ∷ ys) all =
      let e : Some x ≡ Some y = all 0 in
      let head : x ≡ y = cc in
      let rest = same_places xs ys (λ k. all (suc k)) in
      cc

  -- there is an element at each place before the end
  pub there_is : (xs : List X) (k : ℕ) → k < length xs → (x : X) × (slice_get xs k ≡ Some x)
  there_is [] k within = absurd (omega (arith, within))
  there_is (x ∷ xs) zero within = (x, refl)
  there_is (x ∷ xs) (suc k) within = there_is xs k (omega (arith, within))

  pub one_there : (xs : List X) (k : ℕ) (x y : X) → slice_get xs k ≡ Some x → slice_get xs k ≡ Some y → x ≡ y
  one_there xs k x y at is = let e : Some x ≡ Some y = sym at ∙ is in cc

  -- ---- a field of the elements

  module _ {Y : Type 0} (f : X → Y) where
    pub field_at : (xs : List X) (k : ℕ) (x : X) (e : Y) → slice_get xs k ≡ Some x → slice_index_or (map f xs) k e ≡ f x
    field_at xs k x e at =
        sym (unwrap_or-slice_get (map f xs) k e) ∙ ap (λ o. unwrap_or o e) (slice_get-map f xs k ∙ ap (option_map f) at)

    pub field_past : (xs : List X) (k : ℕ) (e : Y) → length xs ≤ k → slice_index_or (map f xs) k e ≡ e
    field_past xs k e past = get_or_past (map f xs) k e (let l = length-map xs f in omega (arith, l, past))

    pub field_same : (xs ys : List X) (k : ℕ) (e : Y) → slice_get ys k ≡ slice_get xs k
        → slice_index_or (map f ys) k e ≡ slice_index_or (map f xs) k e
    field_same xs ys k e same =
        sym (unwrap_or-slice_get (map f ys) k e)
        ∙ (ap (λ o. unwrap_or o e) (slice_get-map f ys k ∙ (ap (option_map f) same ∙ sym (slice_get-map f xs k)))
        ∙ unwrap_or-slice_get (map f xs) k e)

  -- ---- one element is another

  pub set_here : (xs : List X) (k : ℕ) (x : X) → k < length xs → slice_get (set xs k x) k ≡ Some x
  set_here xs k x within =
      slice_get-get_or (set xs k x) k x (let l = length-set xs k x in omega (arith, within, l))
      ∙ ap (λ y. Some y) (get_or-set_same xs k x x within)

  pub set_there : (xs : List X) (k other : ℕ) (x : X) → other ≢ k → slice_get (set xs k x) other ≡ slice_get xs other
  set_there xs k other x apart =
      let l = length-set xs k x in
      elim (cases_lt other (length xs)) [
        | inl within ↦
            slice_get-get_or (set xs k x) other x (omega (arith, within, l))
            ∙ (ap (λ y. Some y) (get_or-set_other xs k other x x apart) ∙ sym (slice_get-get_or xs other x within))
        | inr past ↦ slice_get_past (set xs k x) other (omega (arith, past, l)) ∙ sym (slice_get_past xs other past)
      ]

-- new is old, but for one element
pub record ChangesOne {X : Type 0} (old new : List X) (i : ℕ) (a x : X) : Type 0 where
  pub long : length new ≡ length old
  pub was : slice_get old i ≡ Some a
  pub now : slice_get new i ≡ Some x
  pub others : (k : ℕ) → k ≢ i → slice_get new k ≡ slice_get old k

pub one_set : {X : Type 0} (xs : List X) (i : ℕ) (a x : X) → slice_get xs i ≡ Some a → ChangesOne xs (set xs i x) i a x
one_set xs i a x at = record {
  long = length-set xs i x;
  was = at;
  now = set_here xs i x (slice_get_within xs i a at);
  others = λ k apart. set_there xs i k x apart;
}

module _ {X Y : Type 0} (f : X → Y) (old new : List X) (i : ℕ) (a x : X) (one : ChangesOne old new i a x) where
  -- what it has as before is as before everywhere
  pub reads_same : {Z : Type 0} (h : Y → Z) (e : Y) → h (f x) ≡ h (f a) → (k : ℕ)
      → h (slice_index_or (map f new) k e) ≡ h (slice_index_or (map f old) k e)
  reads_same h e same k = elim (cases_eq k i) [
    | inl here ↦
        ap (λ n. h (slice_index_or (map f new) n e)) here
        ∙ (ap h (field_at f new i x e one.now)
        ∙ (same
        ∙ (ap h (sym (field_at f old i a e one.was))
        ∙ ap (λ n. h (slice_index_or (map f old) n e)) (sym here))))
    | inr apart ↦ ap h (field_same f old new k e (one.others k apart))
  ]

  pub others_same : (e : Y) (k : ℕ) → k ≢ i → slice_index_or (map f new) k e ≡ slice_index_or (map f old) k e
  others_same e k apart = field_same f old new k e (one.others k apart)

  pub field_kept : f x ≡ f a → map f new ≡ map f old
  field_kept same = same_places (map f new) (map f old) (λ k. elim (cases_eq k i) [
    | inl here ↦
        ap (slice_get (map f new)) here
        ∙ (slice_get-map f new i
        ∙ (ap (option_map f) one.now
        ∙ (ap (λ y. Some y) same
        ∙ (sym (ap (option_map f) one.was)
        ∙ (sym (slice_get-map f old i) ∙ ap (slice_get (map f old)) (sym here))))))
    | inr apart ↦ slice_get-map f new k ∙ (ap (option_map f) (one.others k apart) ∙ sym (slice_get-map f old k))
  ])

-- ---- two elements are others

-- new is old, but for these two: the one at a place, and then the one at another
pub record ChangesTwo {X : Type 0} (old new : List X) (i j : ℕ) (a b x y : X) : Type 0 where
  pub mid : List X
  pub apart : i ≢ j
  pub first : ChangesOne old mid i a x
  pub second : ChangesOne mid new j b y

two_set : {X : Type 0} (xs : List X) (i j : ℕ) (a b x y : X) → i ≢ j → slice_get xs i ≡ Some a → slice_get xs j ≡ Some b
    → ChangesTwo xs (set (set xs i x) j y) i j a b x y
two_set xs i j a b x y apart at there = record {
  mid = set xs i x;
  apart = apart;
  first = one_set xs i a x at;
  second = one_set (set xs i x) j b y (set_there xs i j x (λ e. apart (sym e)) ∙ there);
}

module _ {X : Type 0} (old new : List X) (i j : ℕ) (a b x y : X) (two : ChangesTwo old new i j a b x y) where
  pub first_now : slice_get new i ≡ Some x
  first_now = two.second.others i two.apart ∙ two.first.now

  pub second_was : slice_get old j ≡ Some b
  second_was = sym (two.first.others j (λ e. two.apart (sym e))) ∙ two.second.was

  pub rest_same : (k : ℕ) → k ≢ i → k ≢ j → slice_get new k ≡ slice_get old k
  rest_same k not_i not_j = two.second.others k not_j ∙ two.first.others k not_i

-- where the two are as before, all is
pub two_same : {X : Type 0} (old new : List X) (i j : ℕ) (a b x y : X) → ChangesTwo old new i j a b x y → x ≡ a → y ≡ b → new ≡ old
two_same old new i j a b x y two first second = same_places new old (λ k. elim (cases_eq k i) [
  | inl here ↦
      ap (slice_get new) here
      ∙ (first_now old new i j a b x y two
      ∙ (ap (λ z. Some z) first ∙ (sym two.first.was ∙ ap (slice_get old) (sym here))))
  | inr not_i ↦ elim (cases_eq k j) [
    | inl here ↦
        ap (slice_get new) here
        ∙ (two.second.now
        ∙ (ap (λ z. Some z) second ∙ (sym (second_was old new i j a b x y two) ∙ ap (slice_get old) (sym here))))
    | inr not_j ↦ rest_same old new i j a b x y two k not_i not_j
  ]
])

-- what was read at two places is replaced there
pub two_at : {X : Type 0} (xs : List X) (i j : ℕ) (a b x y : X) → i ≢ j → i < length xs → j < length xs → a ≡ get_or xs i a → b ≡ get_or xs j b
    → ChangesTwo xs (set (set xs i x) j y) i j a b x y
two_at xs i j a b x y apart here there at is =
    two_set xs i j a b x y apart (slice_get_read xs (length xs) i a refl here at) (slice_get_read xs (length xs) j b refl there is)

-- ---- a list in two halves, of each of which one element is another

module _ {X : Type 0} (xs low high : List X) (i j : ℕ) (is : xs ≡ low ++ high) (before : i < j) (len : length low ≡ j)
    (within : j < length xs) where
  some_high : 0 < length high
  some_high = let l = length-append low high in let m = ap length is in omega (arith, l, m, len, within)

  low_place : i < length low
  low_place = omega (arith, before, len)

  head_written : (l rest : List X) (y : X) → length l ≡ j → 0 < length rest → l ++ set rest 0 y ≡ set (l ++ rest) j y
  head_written l [] y long none = absurd (omega (arith, none))
  head_written l (h ∷ hs) y long some = sym (set_at l h hs y j long)

  -- it is the whole with both, written in either order
  pub written_up : (x y : X) → set low i x ++ set high 0 y ≡ set (set xs i x) j y
  written_up x y =
      head_written (set low i x) high y (length-set low i x ∙ len) some_high
      ∙ ap (λ l. set l j y) (sym (ap (λ l. set l i x) is ∙ set-append_left low high i x low_place))

  pub written_down : (x y : X) → set low i x ++ set high 0 y ≡ set (set xs j y) i x
  written_down x y = written_up x y ∙ set_comm xs i j x y (λ e. absurd (omega (arith, e, before)))

  pub in_low : (a : X) → a ≡ get_or low i a → a ≡ get_or xs i a
  in_low a at = at ∙ (sym (get_or_append_left low high a i low_place) ∙ ap (λ l. get_or l i a) (sym is))

  pub in_high : (b : X) → b ≡ get_or high 0 b → b ≡ get_or xs j b
  in_high b at = at ∙ (head_read high some_high ∙ ap (λ l. get_or l j b) (sym is))
    where
      head_read : (rest : List X) → 0 < length rest → get_or rest 0 b ≡ get_or (low ++ rest) j b
      head_read [] none = absurd (omega (arith, none))
      head_read (h ∷ hs) some = sym (get_or_at low h hs b j len)
