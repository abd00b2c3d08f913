-- The merge of trails whose stamps rise: what it has of each site, and that it is in order.
use Rattle.std.proofs.Common.{◌≡◌, ℕ, zero, suc, ◌+◌, ◌<◌, ◌≤◌, nat_eq, true, false, List, [], ◌∷◌, ◌++◌, map, reverse, refl, ap, sym, ◌∙◌, subst, arith, if◌then◌else◌}
use Rattle.std.specs.Prelude.{slice_index_or}
use Rattle.std.proofs.lemmas.Bool.Decides.{nat_tests}
use Rattle.std.proofs.lemmas.List.{append-nil, reverse-append}
use Rattle.walter_base.specs.declared.names.SiteId.{SiteId}
use Rattle.walter_base.specs.Names.{same_site}
use Rattle.walter_base.proofs.NameTests.{same_site-true}
use Rattle.walter_rules.specs.declared.entry.Entry.{Entry}
use Rattle.walter_rules.specs.Knowledge.{site_at}
use Rattle.walter_rules.specs.Merges.{Named, entries_of, named_from, precedes, placed, in_order, merge, trail_of}

-- the stamps rise from entry to entry, and the first is above this one
abbrev pub Rises : ℕ → List Entry → Type 0
Rises low [] = Unit {0}
Rises low (e ∷ es) = (low < e.stamp) × Rises e.stamp es

-- an entry that precedes each of these
abbrev pub Leads : Named → List Named → Type 0
Leads n [] = Unit {0}
Leads n (m ∷ ms) = (precedes n m ≡ true) × Leads n ms

abbrev pub IsInOrder : List Named → Type 0
IsInOrder [] = Unit {0}
IsInOrder (n ∷ ns) = Leads n ns × IsInOrder ns

precedes_either : (n m : Named) → precedes n m ≡ false → precedes m n ≡ true
precedes_either n m after = grind (arith, nat_tests, after)

precedes_transitive : (a b c : Named) → precedes a b ≡ true → precedes b c ≡ true → precedes a c ≡ true
precedes_transitive a b c first second = grind (arith, nat_tests, first, second)

-- one that precedes another has no greater stamp
pub no_greater : (a b : Named) → precedes a b ≡ true → a.1.stamp ≤ b.1.stamp
no_greater a b before = grind (arith, nat_tests, before)

-- of one site the lower stamp precedes
pub lower_precedes : (a b : Named) → a.0 ≡ b.0 → a.1.stamp < b.1.stamp → precedes a b ≡ true
lower_precedes a b same lower = grind (arith, nat_tests, lower)

leads_on : (a b : Named) (ns : List Named) → precedes a b ≡ true → Leads b ns → Leads a ns
leads_on a b [] before leads = tt
leads_on a b (n ∷ ns) before leads = (precedes_transitive a b n before leads.0, leads_on a b ns before leads.1)

leads_placed : (a n : Named) (ms : List Named) → precedes a n ≡ true → Leads a ms → Leads a (placed n ms)
leads_placed a n [] before leads = (before, tt)
leads_placed a n (m ∷ ms) before leads =
    elim (precedes n m) as (λ b. Leads a (if b then n ∷ m ∷ ms else m ∷ placed n ms)) [
      | true ↦ (before, leads)
      | false ↦ (leads.0, leads_placed a n ms before leads.1)
    ]

placed_in_order : (n : Named) (ms : List Named) → IsInOrder ms → IsInOrder (placed n ms)
placed_in_order n [] is = (tt, tt)
placed_in_order n (m ∷ ms) is =
    elim (precedes n m) as (λ b. precedes n m ≡ b → IsInOrder (if b then n ∷ m ∷ ms else m ∷ placed n ms)) [
      | true ↦ λ before. ((before, leads_on n m ms before is.0), is)
      | false ↦ λ after. (leads_placed m n ms (precedes_either n m after) is.0, placed_in_order n ms is.1)
    ] refl

pub in_order_is : (ns : List Named) → IsInOrder (in_order ns)
in_order_is [] = tt
in_order_is (n ∷ ns) = placed_in_order n (in_order ns) (in_order_is ns)

-- what is behind a place of a list in order is led by what stands there
pub leads_behind : (front rest : List Named) (n : Named) → IsInOrder (front ++ n ∷ rest) → Leads n rest
leads_behind [] rest n is = is.0
leads_behind (f ∷ front) rest n is = leads_behind front rest n is.1

-- the entries of a site where one more is put in its place: one of another site changes nothing
entries_of_other : (i : SiteId) (n : Named) (ms : List Named) → same_site i n.0 ≡ false
    → entries_of i (placed n ms) ≡ entries_of i ms
entries_of_other i n [] other = rw other refl
entries_of_other i n (m ∷ ms) other =
    elim (precedes n m) as (λ b. entries_of i (if b then n ∷ m ∷ ms else m ∷ placed n ms) ≡ entries_of i (m ∷ ms)) [
      | true ↦ rw other refl
      | false ↦ ap (λ es. if same_site i m.0 then m.1 ∷ es else es) (entries_of_other i n ms other)
    ]

-- and one of this site stands before those that are above it
entries_of_here : (i : SiteId) (n : Named) (ms : List Named) → same_site i n.0 ≡ true
    → Rises n.1.stamp (entries_of i ms) → entries_of i (placed n ms) ≡ n.1 ∷ entries_of i ms
entries_of_here i n [] here rises = rw here refl
entries_of_here i n (m ∷ ms) here rises =
    elim (precedes n m) as (λ b. precedes n m ≡ b → entries_of i (if b then n ∷ m ∷ ms else m ∷ placed n ms)
    ≡ n.1 ∷ entries_of i (m ∷ ms)) [
      | true ↦ λ before. rw here refl
      | false ↦ λ after. elim (same_site i m.0) as (λ b. same_site i m.0 ≡ b
          → Rises n.1.stamp (if b then m.1 ∷ entries_of i ms else entries_of i ms)
          → (if b then m.1 ∷ entries_of i (placed n ms) else entries_of i (placed n ms)) ≡ n.1 ∷
          (if b then m.1 ∷ entries_of i ms else entries_of i ms)) [
            | true ↦ λ mine above.
                let one : n.0 ≡ m.0 = sym (same_site-true i n.0 here) ∙ same_site-true i m.0 mine in
                let sooner : precedes n m ≡ true = lower_precedes n m one above.0 in
                absurd (let clash : true ≡ false = sym sooner ∙ after in cc)
            | false ↦ λ other above. entries_of_here i n ms here above
          ] refl rises
    ] refl

-- in order a site has the entries that it had, where their stamps rise
pub entries_of-in_order : (i : SiteId) (low : ℕ) (ns : List Named) → Rises low (entries_of i ns)
    → entries_of i (in_order ns) ≡ entries_of i ns
entries_of-in_order i low [] rises = refl
entries_of-in_order i low (n ∷ ns) rises =
    elim (same_site i n.0) as (λ b. same_site i n.0 ≡ b
    → Rises low (if b then n.1 ∷ entries_of i ns else entries_of i ns)
    → entries_of i (placed n (in_order ns)) ≡ (if b then n.1 ∷ entries_of i ns else entries_of i ns)) [
      | true ↦ λ here above.
          let same = entries_of-in_order i n.1.stamp ns above.1 in
          entries_of_here i n (in_order ns) here (subst (λ es. Rises n.1.stamp es) (sym same) above.1)
          ∙ ap (λ es. n.1 ∷ es) same
      | false ↦ λ other above. entries_of_other i n (in_order ns) other ∙ entries_of-in_order i low ns above
    ] refl rises

pub entries_of-append : (i : SiteId) (ms ns : List Named) → entries_of i (ms ++ ns) ≡ entries_of i ms ++ entries_of i ns
entries_of-append i [] ns = refl
entries_of-append i (m ∷ ms) ns =
    elim (same_site i m.0) as (λ b. (if b then m.1 ∷ entries_of i (ms ++ ns) else entries_of i (ms ++ ns))
    ≡ (if b then m.1 ∷ entries_of i ms else entries_of i ms) ++ entries_of i ns) [
      | true ↦ ap (λ es. m.1 ∷ es) (entries_of-append i ms ns)
      | false ↦ entries_of-append i ms ns
    ]

pub entries_of-reverse : (i : SiteId) (ns : List Named) → entries_of i (reverse ns) ≡ reverse (entries_of i ns)
entries_of-reverse i [] = refl
entries_of-reverse i (n ∷ ns) =
    ap (λ es. entries_of i es) (reverse-append (n ∷ []) ns)
    ∙ entries_of-append i (reverse ns) (n ∷ [])
    ∙ ap (λ es. es ++ entries_of i (n ∷ [])) (entries_of-reverse i ns)
    ∙ elim (same_site i n.0) as (λ b. reverse (entries_of i ns) ++ (if b then n.1 ∷ [] else []) ≡ reverse
    (if b then n.1 ∷ entries_of i ns else entries_of i ns)) [
      | true ↦ sym (reverse-append (n.1 ∷ []) (entries_of i ns))
      | false ↦ append-nil (reverse (entries_of i ns))
    ]

-- the trail of a site named: all of it for that site, nothing for another
entries_of_named : (i : SiteId) (k : ℕ) (trail : List Entry)
    → entries_of i (map (λ (e : Entry). (site_at k, e)) trail) ≡ (if nat_eq i.0 k then trail else [])
entries_of_named i k [] = elim (nat_eq i.0 k) as (λ b. ◌≡◌ {A = List Entry} [] (if b then [] else [])) [
  | true ↦
      refl
  | false ↦ refl
]
entries_of_named i k (e ∷ es) =
    let rest = entries_of_named i k es in
    elim (nat_eq i.0 k) as (λ b. entries_of i (map (λ (e : Entry). (site_at k, e)) es) ≡ (if b then es else [])
    → (if b then e ∷ entries_of i (map (λ (e : Entry). (site_at k, e)) es) else entries_of i
    (map (λ (e : Entry). (site_at k, e)) es)) ≡ (if b then e ∷ es else [])) [
      | true ↦ λ same. ap (λ t. e ∷ t) same
      | false ↦ λ none. none
    ] rest

-- from this site on the trails of lower ones aren't there
none_below : (i : SiteId) (k : ℕ) (trails : List (List Entry)) → i.0 < k → entries_of i (named_from k trails) ≡ []
none_below i k [] below = refl
none_below i k (trail ∷ trails) below =
    entries_of-append i (map (λ (e : Entry). (site_at k, e)) trail) (named_from (k + 1) trails)
    ∙ ap (λ es. es ++ entries_of i (named_from (k + 1) trails)) (entries_of_named i k trail)
    ∙ (let other : nat_eq i.0 k ≡ false = grind (arith, nat_tests, below) in
    rw other (none_below i (k + 1) trails (omega (arith, below))))

trails_from : (i : SiteId) (k place : ℕ) (trails : List (List Entry)) → i.0 ≡ k + place
    → entries_of i (named_from k trails) ≡ slice_index_or trails place []
trails_from i k place [] is = refl
trails_from i k zero (trail ∷ trails) is =
    entries_of-append i (map (λ (e : Entry). (site_at k, e)) trail) (named_from (k + 1) trails)
    ∙ ap (λ es. es ++ entries_of i (named_from (k + 1) trails)) (entries_of_named i k trail)
    ∙ (let here : nat_eq i.0 k ≡ true = grind (arith, nat_tests, is) in
    rw here (ap (λ es. trail ++ es) (none_below i (k + 1) trails (omega (arith, is))) ∙ append-nil trail))
trails_from i k (suc place) (trail ∷ trails) is =
    entries_of-append i (map (λ (e : Entry). (site_at k, e)) trail) (named_from (k + 1) trails)
    ∙ ap (λ es. es ++ entries_of i (named_from (k + 1) trails)) (entries_of_named i k trail)
    ∙ (let other : nat_eq i.0 k ≡ false = grind (arith, nat_tests, is) in
    rw other (trails_from i (k + 1) place trails (omega (arith, is))))

-- the merge has of each site its trail, where its stamps rise
pub merged_of : (i : SiteId) (trails : List (List Entry)) → Rises 0 (trail_of trails i)
    → entries_of i (merge trails) ≡ trail_of trails i
merged_of i trails rises =
    let all : entries_of i (named_from 0 trails) ≡ trail_of trails i = trails_from i 0 i.0 trails (omega arith) in
    entries_of-in_order i 0 (named_from 0 trails) (subst (λ es. Rises 0 es) (sym all) rises) ∙ all
