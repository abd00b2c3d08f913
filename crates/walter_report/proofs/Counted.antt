-- The counts of sites, where there is one record more.
use Rattle.std.proofs.Common.{◌≡◌, ℕ, ◌+◌, ◌<◌, ◌≤◌, Bool, true, false, cond, nat_eq, List, [], ◌∷◌, ◌++◌, All, length, map, replicate, count_by, set, get_or, zero, suc, refl, sym, ap, subst, ◌∙◌, arith}
use Rattle.std.specs.List.{range_with_len}
use Rattle.std.proofs.lemmas.Bool.{eqb-true, eq-eqb}
use Rattle.std.proofs.lemmas.List.Sums.{sum_by_push}
use Rattle.std.proofs.lemmas.List.Elements.{All-nil, All-cons, All-head, All-tail}
use Rattle.walter_base.specs.declared.message.Record.{Record}
use Rattle.walter_base.specs.declared.names.SiteId.{SiteId}
use Rattle.walter_rules.specs.Knowledge.{site_at}
use Rattle.walter_report.specs.Sites.{counts}
use Rattle.walter_report.specs.Adding.{one_more}

map-range_same : (f g : ℕ → ℕ) (a n : ℕ) → ((k : ℕ) → a ≤ k → g k ≡ f k)
    → map g (range_with_len a n) ≡ map f (range_with_len a n)
map-range_same f g a zero same = refl
map-range_same f g a (suc n) same = λ j. same a (omega arith) j ∷ map-range_same f g (a + 1) n
    (λ k le. same k (omega arith)) j

-- one more at a place, in a list by places
pub map-range_one : (f g : ℕ → ℕ) (a n place at : ℕ) → at ≡ a + place → g at ≡ f at + 1
    → ((k : ℕ) → (k ≡ at → ⊥) → g k ≡ f k)
    → map g (range_with_len a n) ≡ one_more place (map f (range_with_len a n))
map-range_one f g a zero place at is here others = refl
map-range_one f g a (suc n) zero at is here others =
    let first : at ≡ a = omega (arith, is) in
    λ j. subst (λ k. g k ≡ f k + 1) first here j ∷ map-range_same f g (a + 1) n
    (λ k le. others k (λ e. omega (arith, e, is))) j
map-range_one f g a (suc n) (suc place) at is here others =
    λ j. others a (λ e. omega (arith, e, is)) j ∷ map-range_one f g (a + 1) n place at (omega (arith, is)) here others j

pub count_by_yes : {X : Type 0} (test : X → Bool) (xs : List X) (x : X) → test x ≡ true
    → count_by test (xs ++ x ∷ []) ≡ count_by test xs + 1
count_by_yes test xs x is =
    sum_by_push (λ y. cond (test y) 1 0) xs x ∙ ap (λ (b : Bool). count_by test xs + cond {A = ℕ} b 1 0) is

pub count_by_no : {X : Type 0} (test : X → Bool) (xs : List X) (x : X) → test x ≡ false
    → count_by test (xs ++ x ∷ []) ≡ count_by test xs
count_by_no test xs x is =
    let more : count_by test (xs ++ x ∷ []) ≡ count_by test xs + 0 =
    sum_by_push (λ y. cond (test y) 1 0) xs x ∙ ap (λ (b : Bool). count_by test xs + cond {A = ℕ} b 1 0) is in
    omega (arith, more)

pub apart : (a b : ℕ) → (b ≡ a → ⊥) → nat_eq a b ≡ false
apart a b differ = elim (nat_eq a b) as (λ t. nat_eq a b ≡ t → t ≡ false) [
  | true ↦ λ same. absurd (differ (sym (eqb-true a b same)))
  | false ↦ λ other. refl
] refl

none_by : (tells : SiteId → Record → Bool) (a n : ℕ)
    → replicate n 0 ≡ map (λ k. count_by (tells (site_at k)) []) (range_with_len a n)
none_by tells a zero = refl
none_by tells a (suc n) = ap (λ t. 0 ∷ t) (none_by tells (a + 1) n)

-- where there is no record
pub counts_none : (tells : SiteId → Record → Bool) (sites : ℕ) → replicate sites 0 ≡ counts sites tells []
counts_none tells sites = none_by tells 0 sites

-- a record that tells of a commit of one site
counts_one : (tells : SiteId → Record → Bool) (recs : List Record) (rec : Record) (sites place : ℕ)
    → ((k : ℕ) → tells (site_at k) rec ≡ nat_eq place k)
    → counts sites tells (recs ++ rec ∷ []) ≡ one_more place (counts sites tells recs)
counts_one tells recs rec sites place is =
    map-range_one (λ k. count_by (tells (site_at k)) recs)
    (λ k. count_by (tells (site_at k)) (recs ++ rec ∷ [])) 0 sites place place (omega arith)
    (count_by_yes (tells (site_at place)) recs rec (is place ∙ eq-eqb place place refl))
    (λ k differ. count_by_no (tells (site_at k)) recs rec (is k ∙ apart place k differ))

pub counted_one : (tells : SiteId → Record → Bool) (recs : List Record) (rec : Record) (sites place : ℕ)
    (old new : List ℕ)
    → ((k : ℕ) → tells (site_at k) rec ≡ nat_eq place k) → new ≡ one_more place old → old ≡ counts sites tells recs
    → new ≡ counts sites tells (recs ++ rec ∷ [])
counted_one tells recs rec sites place old new is more before =
    more ∙ ap (one_more place) before ∙ sym (counts_one tells recs rec sites place is)

pub one_more-set : (place : ℕ) (ns : List ℕ) → place < length ns
    → one_more place ns ≡ set ns place (get_or ns place 0 + 1)
one_more-set place [] within = absurd (omega arith)
one_more-set zero (n ∷ ns) within = refl
one_more-set (suc place) (n ∷ ns) within = ap (λ t. n ∷ t) (one_more-set place ns (omega (arith, within)))

pub one_more-past : (place : ℕ) (ns : List ℕ) → length ns ≤ place → one_more place ns ≡ ns
one_more-past place [] past = refl
one_more-past zero (n ∷ ns) past = absurd (omega arith)
one_more-past (suc place) (n ∷ ns) past = ap (λ t. n ∷ t) (one_more-past place ns (omega (arith, past)))

All-at_most_more : (most : ℕ) (ns : List ℕ) → All (λ n. n ≤ most) ns → All (λ n. n ≤ most + 1) ns
All-at_most_more most ns all i d within = omega (arith, all i d within)

pub All-one_more : (most place : ℕ) (ns : List ℕ) → All (λ n. n ≤ most) ns → All (λ n. n ≤ most + 1) (one_more place ns)
All-one_more most place [] all = All-nil (λ n. n ≤ most + 1)
All-one_more most zero (n ∷ ns) all =
    All-cons (λ m. m ≤ most + 1) (n + 1) ns (omega (arith, All-head (λ m. m ≤ most) n ns all))
    (All-at_most_more most ns (All-tail (λ m. m ≤ most) n ns all))
All-one_more most (suc place) (n ∷ ns) all =
    All-cons (λ m. m ≤ most + 1) n (one_more place ns) (omega (arith, All-head (λ m. m ≤ most) n ns all))
    (All-one_more most place ns (All-tail (λ m. m ≤ most) n ns all))
