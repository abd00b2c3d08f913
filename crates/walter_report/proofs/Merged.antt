-- What holds of each entry of the trails holds of each entry of their merge; and the site of each is one of theirs.
use Rattle.std.proofs.Common.{◌<◌, ◌≤◌, ℕ, ◌+◌, Bool, true, false, List, [], ◌∷◌, length, map, All, arith}
use Rattle.std.specs.Prelude.{if◌then◌else◌}
use Rattle.std.proofs.lemmas.List.Elements.{All-nil, All-cons, All-append, All-map, All-head, All-tail}
use Rattle.walter_rules.specs.declared.entry.Entry.{Entry}
use Rattle.walter_rules.specs.Merges.{Named, named_from, precedes, placed, in_order, merge}

All-either : (P : Named → Type 0) (test : Bool) (xs ys : List Named) → All P xs → All P ys
    → All P (if test then xs else ys)
All-either P true xs ys one other = one
All-either P false xs ys one other = other

All-placed : (P : Named → Type 0) (n : Named) (ns : List Named) → P n → All P ns → All P (placed n ns)
All-placed P n [] one all = All-cons P n [] one all
All-placed P n (m ∷ ns) one all =
    All-either P (precedes n m) (n ∷ m ∷ ns) (m ∷ placed n ns) (All-cons P n (m ∷ ns) one all)
    (All-cons P m (placed n ns) (All-head P m ns all) (All-placed P n ns one (All-tail P m ns all)))

All-in_order : (P : Named → Type 0) (ns : List Named) → All P ns → All P (in_order ns)
All-in_order P [] all = all
All-in_order P (n ∷ ns) all =
    All-placed P n (in_order ns) (All-head P n ns all) (All-in_order P ns (All-tail P n ns all))

All-named_from : (P : Entry → Type 0) (i : ℕ) (trails : List (List Entry)) → All (λ trail. All P trail) trails
    → All (λ n. P n.1) (named_from i trails)
All-named_from P i [] all = All-nil (λ n. P n.1)
All-named_from P i (trail ∷ trails) all =
    All-append (λ n. P n.1) (map (λ e. (record { 0 = i }, e)) trail) (named_from (i + 1) trails)
    (All-map (λ n. P n.1) (λ e. (record { 0 = i }, e)) trail (All-head (λ t. All P t) trail trails all))
    (All-named_from P (i + 1) trails (All-tail (λ t. All P t) trail trails all))

pub All-merge : (P : Entry → Type 0) (trails : List (List Entry)) → All (λ trail. All P trail) trails
    → All (λ n. P n.1) (merge trails)
All-merge P trails all = All-in_order (λ n. P n.1) (named_from 0 trails) (All-named_from P 0 trails all)

-- the trails are those of the sites below this one
All-below : (bound i : ℕ) (trail : List Entry) → i < bound → All (λ (e : Entry). i < bound) trail
All-below bound i [] lt = All-nil (λ e. i < bound)
All-below bound i (e ∷ es) lt = All-cons (λ e. i < bound) e es lt (All-below bound i es lt)

named_below : (bound i : ℕ) (trails : List (List Entry)) → i + length trails ≤ bound
    → All (λ (n : Named). n.0.0 < bound) (named_from i trails)
named_below bound i [] few = All-nil (λ n. n.0.0 < bound)
named_below bound i (trail ∷ trails) few =
    All-append (λ n. n.0.0 < bound) (map (λ e. (record { 0 = i }, e)) trail) (named_from (i + 1) trails)
    (All-map (λ n. n.0.0 < bound) (λ e. (record { 0 = i }, e)) trail (All-below bound i trail (omega (arith, few))))
    (named_below bound (i + 1) trails (omega (arith, few)))

pub merge_below : (trails : List (List Entry)) → All (λ (n : Named). n.0.0 < length trails) (merge trails)
merge_below trails =
    All-in_order (λ n. n.0.0 < length trails) (named_from 0 trails)
    (named_below (length trails) 0 trails (omega arith))
