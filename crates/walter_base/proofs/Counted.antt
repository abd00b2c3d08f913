-- The counts of a set are one list: that of its definition, and no other.
use Rattle.std.proofs.Common.{◌≡◌, ℕ, suc, ◌<◌, ◌≤◌, get_or, List, [], ◌∷◌, map, refl, ap, sym, Bool, true, not, inl, inr, ◌⊎◌, arith, nat_lt}
use Rattle.std.specs.Prelude.{ℤ, pos, Contains, All, AllPairs, filter, flat_map}
use Rattle.std.specs.Ordering.{int_eq}
use Rattle.std.proofs.lemmas.Bool.{cases_Bool, ltb-true, ltb-false, both_ways, not_from_true, not_from_false}
use Rattle.std.proofs.lemmas.Bool.Decides.{Decides-int_eq}
use Rattle.std.proofs.lemmas.List.Elements.{All-nil, All-head, All-tail, All-cons, All-weaker, All-contains, All-contains_itself, All-map, All-filter, filter_passes, Contains-append_right, Contains-append_cases}
use Rattle.std.proofs.lemmas.List.Kept.{AllPairs-cons, AllPairs-filter}
use Rattle.std.proofs.lemmas.Map.Made.{Contains-tail}
use Rattle.walter_base.specs.declared.names.ObjId.{ObjId}
use Rattle.walter_base.specs.declared.update.Update.{Update}
use Rattle.walter_base.specs.Values.{count_of, AreCounts, ids_named, with_number, rising, counts_of}
use Rattle.walter_base.specs.Counting.{IsCountOf, IsListed}
use Rattle.walter_base.proofs.SetCounts.{counts_are}

-- the first element is in the relation to each later one
AllPairs-head : {X : Type 0} (R : X → X → Type 0) (x : X) (xs : List X) → AllPairs R (x ∷ xs) → All (R x) xs
AllPairs-head R x xs pairs k d within = pairs 0 (suc k) d (omega arith) (omega arith)

AllPairs-tail : {X : Type 0} (R : X → X → Type 0) (x : X) (xs : List X) → AllPairs R (x ∷ xs) → AllPairs R xs
AllPairs-tail R x xs pairs i j d before within = pairs (suc i) (suc j) d (omega arith) (omega arith)

AllPairs-nil : {X : Type 0} (R : X → X → Type 0) → AllPairs R []
AllPairs-nil R i j d before within = absurd (omega arith)

AllPairs-map : {X Y : Type 0} (R : Y → Y → Type 0) (f : X → Y) (xs : List X) → AllPairs (λ a b. R (f a) (f b)) xs → AllPairs R (map f xs)
AllPairs-map R f [] pairs = AllPairs-nil R
AllPairs-map R f (x ∷ xs) pairs =
    let first = AllPairs-head (λ a b. R (f a) (f b)) x xs pairs in
    let rest = AllPairs-tail (λ a b. R (f a) (f b)) x xs pairs in
    AllPairs-cons R (f x) (map f xs) (All-map (R (f x)) f xs first) (AllPairs-map R f xs rest)

-- a list contains its first element, and what its rest contains
Contains-head : {X : Type 0} (x : X) (xs : List X) → Contains (x ∷ xs) x
Contains-head x xs = (0, omega arith, refl)

Contains-cons : {X : Type 0} (x : X) (xs : List X) (y : X) → Contains xs y → Contains (x ∷ xs) y
Contains-cons x xs y within = Contains-append_right (x ∷ []) xs y within

-- what a list contains is mapped to elements of the mapped list
All-Contains_map : {X Y : Type 0} (f : X → Y) (xs : List X) → All (λ x. Contains (map f xs) (f x)) xs
All-Contains_map f [] = All-nil (λ x. Contains [] (f x))
All-Contains_map f (x ∷ xs) =
    All-cons (λ y. Contains (f x ∷ map f xs) (f y)) x xs (Contains-head (f x) (map f xs))
    (All-weaker (λ y. Contains (map f xs) (f y)) (λ y. Contains (f x ∷ map f xs) (f y)) (λ y within. Contains-cons (f x) (map f xs) (f y) within) xs (All-Contains_map f xs))

-- what passes the test of a filter is kept
pub All-Contains_filter : {X : Type 0} (p : X → Bool) (xs : List X) → All (λ x. p x ≡ true → Contains (filter p xs) x) xs
All-Contains_filter p [] = All-nil (λ x. p x ≡ true → Contains [] x)
All-Contains_filter {X} p (x ∷ xs) =
    All-cons (λ y. p y ≡ true → Contains (filter p (x ∷ xs)) y) x xs (λ passes. rw passes (Contains-head x (filter p xs)))
    (All-weaker (λ y. p y ≡ true → Contains (filter p xs) y) (λ y. p y ≡ true → Contains (filter p (x ∷ xs)) y) later xs (All-Contains_filter p xs))
  where
    later : (y : X) → (p y ≡ true → Contains (filter p xs) y) → p y ≡ true → Contains (filter p (x ∷ xs)) y
    later y kept passes = elim (cases_Bool (p x)) [
      | inl is ↦ rw is (Contains-cons x (filter p xs) y (kept passes))
      | inr is ↦ rw is (kept passes)
    ]

-- what holds of the numbers and of the one more holds of all of them
All-with_number : (P : ℕ → Type 0) (n : ℕ) (ms : List ℕ) → P n → All P ms → All P (with_number n ms)
All-with_number P n [] here others = All-cons P n [] here others
All-with_number P n (m ∷ ms) here others = elim (cases_Bool (nat_lt n m)) [
  | inl below ↦ rw below (All-cons P n (m ∷ ms) here others)
  | inr above ↦ elim (cases_Bool (nat_lt m n)) [
    | inl higher ↦ rw (above, higher) (All-cons P m (with_number n ms) (All-head P m ms others) (All-with_number P n ms here (All-tail P m ms others)))
    | inr same ↦ rw (above, same) others
  ]
]

-- numbers that rise still do with one more
AllPairs-with_number : (n : ℕ) (ms : List ℕ) → AllPairs (λ a b. a < b) ms → AllPairs (λ a b. a < b) (with_number n ms)
AllPairs-with_number n [] rise = AllPairs-cons (λ a b. a < b) n [] (All-nil (λ m. n < m)) rise
AllPairs-with_number n (m ∷ ms) rise =
    let first : All (λ k. m < k) ms = AllPairs-head (λ a b. a < b) m ms rise in
    let rest : AllPairs (λ a b. a < b) ms = AllPairs-tail (λ a b. a < b) m ms rise in
    elim (cases_Bool (nat_lt n m)) [
      | inl below ↦
          let less : n < m = ltb-true n m below in
          let others = All-weaker (λ k. m < k) (λ k. n < k) (λ k higher. omega arith) ms first in
          rw below (AllPairs-cons (λ a b. a < b) n (m ∷ ms) (All-cons (λ k. n < k) m ms less others) rise)
      | inr above ↦ elim (cases_Bool (nat_lt m n)) [
        | inl higher ↦
            let others = All-with_number (λ k. m < k) n ms (ltb-true m n higher) first in
            rw (above, higher) (AllPairs-cons (λ a b. a < b) m (with_number n ms) others (AllPairs-with_number n ms rest))
        | inr same ↦ rw (above, same) rise
      ]
    ]

-- the number that is one more is among them
Contains-with_number : (n : ℕ) (ms : List ℕ) → Contains (with_number n ms) n
Contains-with_number n [] = Contains-head n []
Contains-with_number n (m ∷ ms) = elim (cases_Bool (nat_lt n m)) [
  | inl below ↦ rw below (Contains-head n (m ∷ ms))
  | inr above ↦ elim (cases_Bool (nat_lt m n)) [
    | inl higher ↦ rw (above, higher) (Contains-cons m (with_number n ms) n (Contains-with_number n ms))
    | inr same ↦
        let low : m ≤ n = ltb-false n m above in
        let high : n ≤ m = ltb-false m n same in
        rw (above, same) (0, omega arith, omega arith)
  ]
]

-- and so are the others
All-Contains_with_number : (n : ℕ) (ms : List ℕ) → All (Contains (with_number n ms)) ms
All-Contains_with_number n [] = All-nil (Contains (n ∷ []))
All-Contains_with_number n (m ∷ ms) = elim (cases_Bool (nat_lt n m)) [
  | inl below ↦ rw below (All-weaker (Contains (m ∷ ms)) (Contains (n ∷ m ∷ ms)) (Contains-cons n (m ∷ ms)) (m ∷ ms) (All-contains_itself (m ∷ ms)))
  | inr above ↦ elim (cases_Bool (nat_lt m n)) [
    | inl higher ↦ rw (above, higher) (All-cons (Contains (m ∷ with_number n ms)) m ms (Contains-head m (with_number n ms))
        (All-weaker (Contains (with_number n ms)) (Contains (m ∷ with_number n ms)) (Contains-cons m (with_number n ms)) ms (All-Contains_with_number n ms)))
    | inr same ↦ rw (above, same) (All-contains_itself (m ∷ ms))
  ]
]

-- each number of a list is among its rising numbers
All-Contains_rising : (ns : List ℕ) → All (Contains (rising ns)) ns
All-Contains_rising [] = All-nil (Contains [])
All-Contains_rising (n ∷ ns) =
    All-cons (Contains (with_number n (rising ns))) n ns (Contains-with_number n (rising ns))
    (All-weaker (Contains (rising ns)) (Contains (with_number n (rising ns))) (λ m within. All-contains (Contains (with_number n (rising ns))) (rising ns) m (All-Contains_with_number n (rising ns)) within) ns (All-Contains_rising ns))

-- which rise
AllPairs-rising : (ns : List ℕ) → AllPairs (λ a b. a < b) (rising ns)
AllPairs-rising [] = AllPairs-nil (λ a b. a < b)
AllPairs-rising (n ∷ ns) = AllPairs-with_number n (rising ns) (AllPairs-rising ns)

-- elements under keys that rise
abbrev KeysRise : {X : Type 0} → (X → ℕ) → List X → Type 0
KeysRise key xs = AllPairs (λ a b. key a < key b) xs

-- of elements whose keys rise each is the first, or has a greater key
first_or_above : {X : Type 0} (key : X → ℕ) (x : X) (xs : List X) (y : X) → KeysRise key (x ∷ xs) → Contains (x ∷ xs) y → (x ≡ y) ⊎ (key x < key y)
first_or_above key x xs y rise within = elim (Contains-append_cases (x ∷ []) xs y within) [
  | inl first ↦ inl (All-contains (λ z. x ≡ z) (x ∷ []) y (All-cons (λ z. x ≡ z) x [] refl (All-nil (λ z. x ≡ z))) first)
  | inr later ↦ inr (All-contains (λ z. key x < key z) xs y (AllPairs-head (λ a b. key a < key b) x xs rise) later)
]

-- two lists with the same elements, under keys that rise, have the same first element
same_first : {X : Type 0} (key : X → ℕ) (x : X) (xs : List X) (y : X) (ys : List X) → KeysRise key (x ∷ xs) → KeysRise key (y ∷ ys)
    → Contains (x ∷ xs) y → Contains (y ∷ ys) x → x ≡ y
same_first key x xs y ys rise also_rise back forth = elim (first_or_above key x xs y rise back) [
  | inl same ↦ same
  | inr above ↦ elim (first_or_above key y ys x also_rise forth) [
    | inl same ↦ sym same
    | inr below ↦ absurd (omega arith)
  ]
]

-- and what follows it in one follows it in the other
later_too : {X : Type 0} (key : X → ℕ) (x : X) (xs : List X) (y : X) (ys : List X) → KeysRise key (x ∷ xs) → x ≡ y
    → ((z : X) → Contains (x ∷ xs) z → Contains (y ∷ ys) z) → (z : X) → Contains xs z → Contains ys z
later_too key x xs y ys rise same forth z within =
    let above : key x < key z = All-contains (λ w. key x < key w) xs z (AllPairs-head (λ a b. key a < key b) x xs rise) within in
    let first : key x ≡ key y = ap key same in
    Contains-tail y ys z (λ found. let found_key : key y ≡ key z = ap key found in omega arith) (forth z (Contains-cons x xs z within))

-- lists with the same elements, under keys that rise, are equal
same_rising : {X : Type 0} (key : X → ℕ) (xs ys : List X) → KeysRise key xs → KeysRise key ys
    → ((z : X) → Contains xs z → Contains ys z) → ((z : X) → Contains ys z → Contains xs z) → xs ≡ ys
same_rising key [] [] rise also_rise forth back = refl
same_rising key [] (y ∷ ys) rise also_rise forth back = let none = back y (Contains-head y ys) in absurd (omega (arith, none.1))
same_rising key (x ∷ xs) [] rise also_rise forth back = let none = forth x (Contains-head x xs) in absurd (omega (arith, none.1))
same_rising {X} key (x ∷ xs) (y ∷ ys) rise also_rise forth back =
    let same = same_first key x xs y ys rise also_rise (back y (Contains-head y ys)) (forth x (Contains-head x xs)) in
    let rest = same_rising key xs ys (AllPairs-tail (λ a b. key a < key b) x xs rise) (AllPairs-tail (λ a b. key a < key b) y ys also_rise)
    (later_too key x xs y ys rise same forth) (later_too key y ys x xs also_rise (sym same) back) in
    λ i. same i ∷ rest i

-- the entry of an id, and whether its count isn't 0
abbrev entry_for : ObjId → List Update → ℕ → ℕ × ℤ
entry_for oid updates id = (id, count_of oid id updates)

abbrev is_counted : ℕ × ℤ → Bool
is_counted entry = not (int_eq entry.1 (pos 0))

-- the entries of ids that have a count are counts
are_true : (oid : ObjId) (updates : List Update) (ids : List ℕ) → All (IsCountOf oid updates) (filter is_counted (map (entry_for oid updates) ids))
are_true oid updates ids k d within =
    let entries = map (entry_for oid updates) ids in
    let entry = get_or (filter is_counted entries) k d in
    let counts = All-map (λ e. count_of oid e.0 updates ≡ e.1) (entry_for oid updates) ids (λ j id among. refl) in
    let passes : is_counted entry ≡ true = filter_passes is_counted entries k d within in
    let fails = λ (none : entry.1 ≡ pos 0). not_from_true (int_eq entry.1 (pos 0)) ((Decides-int_eq entry.1 (pos 0)).1 none) in
    (All-filter is_counted (λ e. count_of oid e.0 updates ≡ e.1) entries counts k d within, λ none. both_ways (is_counted entry) (fails none) passes)

-- and each of the ids is listed
are_listed : (oid : ObjId) (updates : List Update) (ids : List ℕ) (id : ℕ) → Contains ids id → IsListed oid updates (filter is_counted (map (entry_for oid updates) ids)) id
are_listed oid updates ids id within =
    let entries = map (entry_for oid updates) ids in
    let entry = entry_for oid updates id in
    let among : Contains entries entry = All-contains (λ n. Contains entries (entry_for oid updates n)) ids id (All-Contains_map (entry_for oid updates) ids) within in
    elim (cases_Bool (int_eq entry.1 (pos 0))) [
      | inl none ↦ inl ((Decides-int_eq entry.1 (pos 0)).0 none)
      | inr some ↦
          let kept = All-contains (λ e. is_counted e ≡ true → Contains (filter is_counted entries) e) entries entry (All-Contains_filter is_counted entries) among (not_from_false (int_eq entry.1 (pos 0)) some) in
          inr (kept.0, entry, kept.1, kept.2, refl)
    ]

-- the list is that of the counts
pub counts_of_are : (oid : ObjId) (updates : List Update) → AreCounts oid updates (counts_of oid updates)
counts_of_are oid updates =
    let named = flat_map (ids_named oid) updates in
    let ids = rising named in
    let entries = map (entry_for oid updates) ids in
    let entries_rise = AllPairs-map (λ a b. a.0 < b.0) (entry_for oid updates) ids (AllPairs-rising named) in
    counts_are oid updates (counts_of oid updates) (AllPairs-filter (λ a b. a.0 < b.0) is_counted entries entries_rise) (are_true oid updates ids)
    (All-weaker (Contains ids) (IsListed oid updates (counts_of oid updates)) (are_listed oid updates ids) named (All-Contains_rising named))

-- and no other is
pub counts_are_one : (oid : ObjId) (updates : List Update) (counts : List (ℕ × ℤ)) → AreCounts oid updates counts → counts ≡ counts_of oid updates
counts_are_one oid updates counts are =
    let ours = counts_of_are oid updates in
    same_rising (λ e. e.0) counts (counts_of oid updates) are.rising ours.rising (λ e within. (ours.held e.0 e.1).1 ((are.held e.0 e.1).0 within))
    (λ e within. (are.held e.0 e.1).1 ((ours.held e.0 e.1).0 within))
