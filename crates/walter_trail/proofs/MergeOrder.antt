-- The entries in order are what a stable sort by stamp and site makes of them.
use Rattle.std.proofs.Common.{◌≡◌, ℕ, suc, get_or, ◌+◌, Bool, true, false, not, ◌&&◌, List, [], ◌∷◌, filter, if◌then◌else◌, refl, ap, sym, ◌∙◌, subst, arith}
use Rattle.std.specs.List.Sorted.{IsSortedBy, IsStableBy, ties}
use Rattle.std.specs.Ordering.{is_lt, nat_cmp, ordering_then}
use Rattle.std.proofs.lemmas.Bool.Decides.{nat_tests}
use Rattle.walter_rules.specs.Merges.{Named, precedes, placed, in_order}

-- what a sort goes by: the stamp, then the site
abbrev pub stamped : Named → ℕ × ℕ
stamped n = (n.1.stamp, n.0.0)

-- what it asks of two entries
abbrev pub is_below : Named → Named → Bool
is_below n m = is_lt (ordering_then (nat_cmp n.1.stamp m.1.stamp) (nat_cmp n.0.0 m.0.0))

-- neither of two entries is below the other
abbrev pub tie : Named → Named → Bool
tie x y = precedes y x && precedes x y

precedes_is : (n m : Named) → not (is_below m n) ≡ precedes n m
precedes_is n m = grind (arith, nat_tests)

precedes_self : (n : Named) → precedes n n ≡ true
precedes_self n = grind (arith, nat_tests)

precedes_either : (n m : Named) → precedes n m ≡ false → precedes m n ≡ true
precedes_either n m after = grind (arith, nat_tests, after)

precedes_transitive : (a b c : Named) → precedes a b ≡ true → precedes b c ≡ true → precedes a c ≡ true
precedes_transitive a b c first second = grind (arith, nat_tests, first, second)

both : (a b : Bool) → (a && b) ≡ true → (a ≡ true) × (b ≡ true)
both true b is = (refl, is)
both false b is = absurd cc

-- an entry that precedes each of these
abbrev pub Leads : Named → List Named → Type 0
Leads n [] = Unit {0}
Leads n (m ∷ ms) = (precedes n m ≡ true) × Leads n ms

abbrev pub IsInOrder : List Named → Type 0
IsInOrder [] = Unit {0}
IsInOrder (n ∷ ns) = Leads n ns × IsInOrder ns

leads_on : (a b : Named) (ns : List Named) → precedes a b ≡ true → Leads b ns → Leads a ns
leads_on a b [] before leads = tt
leads_on a b (n ∷ ns) before leads = (precedes_transitive a b n before leads.0, leads_on a b ns before leads.1)

leads_placed : (a n : Named) (ms : List Named) → precedes a n ≡ true → Leads a ms → Leads a (placed n ms)
leads_placed a n [] before leads = (before, tt)
leads_placed a n (m ∷ ms) before leads = elim (precedes n m) as (λ b. Leads a (if b then n ∷ m ∷ ms else m ∷ placed n ms)) [
  | true ↦ (before, leads)
  | false ↦ (leads.0, leads_placed a n ms before leads.1)
]

placed_in_order : (n : Named) (ms : List Named) → IsInOrder ms → IsInOrder (placed n ms)
placed_in_order n [] is = (tt, tt)
placed_in_order n (m ∷ ms) is = elim (precedes n m) as (λ b. precedes n m ≡ b → IsInOrder (if b then n ∷ m ∷ ms else m ∷ placed n ms)) [
  | true ↦ λ before. ((before, leads_on n m ms before is.0), is)
  | false ↦ λ after. (leads_placed m n ms (precedes_either n m after) is.0, placed_in_order n ms is.1)
] refl

pub in_order_is : (ns : List Named) → IsInOrder (in_order ns)
in_order_is [] = tt
in_order_is (n ∷ ns) = placed_in_order n (in_order ns) (in_order_is ns)

-- of two elements that aren't both taken, which comes first doesn't matter
swapped : {X : Type 0} (a b : Bool) (n m : X) (rest : List X) → (a ≡ true → b ≡ true → ⊥)
    → (if b then m ∷ (if a then n ∷ rest else rest) else (if a then n ∷ rest else rest)) ≡ (if a then n ∷ (if b then m ∷ rest else rest) else (if b then m ∷ rest else rest))
swapped true true n m rest apart = absurd (apart refl refl)
swapped true false n m rest apart = refl
swapped false b n m rest apart = refl

placed_stable : (x n : Named) (ms : List Named) → filter (tie x) (placed n ms) ≡ filter (tie x) (n ∷ ms)
placed_stable x n [] = refl
placed_stable x n (m ∷ ms) = elim (precedes n m) as (λ b. precedes n m ≡ b → filter (tie x) (if b then n ∷ m ∷ ms else m ∷ placed n ms) ≡ filter (tie x) (n ∷ m ∷ ms)) [
  | true ↦ λ before. refl
  | false ↦ λ after.
      ap (λ l. if tie x m then m ∷ l else l) (placed_stable x n ms)
      ∙ swapped (tie x n) (tie x m) n m (filter (tie x) ms) (λ one other.
      let before = precedes_transitive n x m (both (precedes n x) (precedes x n) one).0 (both (precedes m x) (precedes x m) other).1 in
      absurd cc)
] refl

-- entries that tie stay in their order
pub in_order_stable : (x : Named) (ns : List Named) → filter (tie x) (in_order ns) ≡ filter (tie x) ns
in_order_stable x [] = refl
in_order_stable x (n ∷ ns) = placed_stable x n (in_order ns) ∙ ap (λ l. if tie x n then n ∷ l else l) (in_order_stable x ns)

tie_self : (n : Named) → tie n n ≡ true
tie_self n = rw (precedes_self n) refl

kept_first : (n : Named) (ns : List Named) → filter (tie n) (n ∷ ns) ≡ n ∷ filter (tie n) ns
kept_first n ns = ap (λ b. if b then n ∷ filter (tie n) ns else filter (tie n) ns) (tie_self n)

-- what leads a list leads what ties with one of it
leading : (k x w : Named) (ns rest : List Named) → Leads k ns → filter (tie x) ns ≡ w ∷ rest → precedes k x ≡ true
leading k x w [] rest leads is = absurd cc
leading k x w (n ∷ ns) rest leads is = elim (tie x n) as (λ b. tie x n ≡ b → (if b then n ∷ filter (tie x) ns else filter (tie x) ns) ≡ w ∷ rest → precedes k x ≡ true) [
  | true ↦ λ one found. precedes_transitive k n x leads.0 (both (precedes n x) (precedes x n) one).0
  | false ↦ λ none found. leading k x w ns rest leads.1 found
] refl is

without_first : {X : Type 0} (b : Bool) (n : X) (xs ys : List X) → (if b then n ∷ xs else xs) ≡ (if b then n ∷ ys else ys) → xs ≡ ys
without_first true n xs ys is = cc
without_first false n xs ys is = is

-- two lists in order that hold the same of each tie are the same
pub same_order : (ns ms : List Named) → IsInOrder ns → IsInOrder ms → ((x : Named) → filter (tie x) ns ≡ filter (tie x) ms) → ns ≡ ms
same_order [] [] one other same = refl
same_order [] (m ∷ ms) one other same = let here = kept_first m ms in let none = same m in absurd cc
same_order (n ∷ ns) [] one other same = let here = kept_first n ns in let none = same n in absurd cc
same_order (n ∷ ns) (m ∷ ms) one other same =
    let here : filter (tie n) (m ∷ ms) ≡ n ∷ filter (tie n) ns = sym (same n) ∙ kept_first n ns in
    let there : filter (tie m) (n ∷ ns) ≡ m ∷ filter (tie m) ms = same m ∙ kept_first m ms in
    let low : precedes m n ≡ true = leading m n n (m ∷ ms) (filter (tie n) ns) (precedes_self m, other.0) here in
    let high : precedes n m ≡ true = leading n m m (n ∷ ns) (filter (tie m) ms) (precedes_self n, one.0) there in
    let ties_here : tie n m ≡ true = rw (low, high) refl in
    let first : filter (tie n) (m ∷ ms) ≡ m ∷ filter (tie n) ms = ap (λ b. if b then m ∷ filter (tie n) ms else filter (tie n) ms) ties_here in
    let heads : m ≡ n = cc in
    let rests = same_order ns ms one.1 other.1 (λ x.
    without_first (tie x n) n (filter (tie x) ns) (filter (tie x) ms) (same x ∙ ap (λ k. filter (tie x) (k ∷ ms)) heads)) in
    λ i. sym heads i ∷ rests i

-- what a sort leaves is in order
sorted_in_order : (ns : List Named) → IsSortedBy is_below ns → IsInOrder ns
sorted_in_order [] sorted = tt
sorted_in_order (n ∷ ns) sorted = let rest = sorted_in_order ns (later n ns sorted) in (leads_next n ns sorted rest, rest)
  where
    later : (n : Named) (ns : List Named) → IsSortedBy is_below (n ∷ ns) → IsSortedBy is_below ns
    later n ns sorted k d low high =
        let next : suc k + 1 ≡ suc (k + 1) = omega arith in
        subst (λ j. is_below (get_or (n ∷ ns) j d) (get_or ns k d) ≡ false) next (sorted (suc k) d (omega arith) (omega arith))

    leads_next : (n : Named) (ns : List Named) → IsSortedBy is_below (n ∷ ns) → IsInOrder ns → Leads n ns
    leads_next n [] sorted rest = tt
    leads_next n (m ∷ ms) sorted rest =
        let before : precedes n m ≡ true = sym (precedes_is n m) ∙ ap not (sorted 0 n (omega arith) (omega arith)) in
        (before, leads_on n m ms before rest.0)

ties_are : (x y : Named) → ties is_below x y ≡ tie x y
ties_are x y = λ i. precedes_is y x i && precedes_is x y i

-- what a stable sort leaves are the entries in order
pub sorted_is : (ns sorted : List Named) → IsSortedBy is_below sorted → IsStableBy is_below ns sorted → sorted ≡ in_order ns
sorted_is ns sorted rises stable =
    same_order sorted (in_order ns) (sorted_in_order sorted rises) (in_order_is ns) (λ x.
    sym (λ i. filter (λ y. ties_are x y i) sorted) ∙ stable x ∙ (λ i. filter (λ y. ties_are x y i) ns) ∙ sym (in_order_stable x ns))
