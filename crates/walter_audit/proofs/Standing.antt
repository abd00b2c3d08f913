-- Where a site stood: its counts at each place, and which of them a start is.
use Rattle.std.proofs.Common.{◌≡◌, ◌+◌, ◌<◌, ◌≤◌, ℕ, zero, suc, nat_eq, List, [], ◌∷◌, ◌++◌, length, take, slice_get, slice_index, Some, None, refl, ap, sym, ◌∙◌, subst, arith, inl, inr, true, false, if◌then◌else◌}
use Rattle.std.specs.Prelude.{Option, count_by, IfSome, IfNone}
use Rattle.std.specs.List.{range_with_len}
use Rattle.std.proofs.lemmas.Bool.{cases_Bool, eq-eqb}
use Rattle.std.proofs.lemmas.List.{length-append, length-take-le, take-take}
use Rattle.std.proofs.lemmas.Option.{same_Some, slice_get_within}
use Rattle.walter_base.specs.declared.catalog.Catalog.{Catalog}
use Rattle.walter_base.specs.declared.message.Record.{Record}
use Rattle.walter_base.specs.declared.message.Record.TheVariants.{Own}
use Rattle.walter_base.specs.declared.names.SiteId.{SiteId}
use Rattle.walter_base.specs.declared.transaction.Tx.{Tx}
use Rattle.walter_base.specs.Vectors.{entry_at, Covers}
use Rattle.walter_psi.proofs.Lists.{slice_get-push_cases}
use Rattle.walter_rules.specs.Knowledge.{sites, site_at}
use Rattle.walter_rules.proofs.Membership.{made_from}
use Rattle.walter_agreement.proofs.Cases.{low_or}
use Rattle.walter_agreement.proofs.Lists.{take_push}
use Rattle.walter_alone.proofs.TestsPass.{all_pass}
use Rattle.walter_refinement.proofs.SameReads.{count_by-append}
use Rattle.walter_audit.specs.declared.finding.Named.{Named}
use Rattle.walter_audit.specs.Firsts.{IsSoAt, IsFirstPlace, IsSo, IsFirst}
use Rattle.walter_audit.specs.Journals.{commits_of, count, are_counts, journals_of, AreAmong}
use Rattle.walter_audit.specs.Reasons.{IsUnstarted}
use Rattle.walter_audit.specs.Starts.{AreCountsOf, AreFronts, AreRising, HasMatch, IsUnmatched, IsUnstartedIn}
use Rattle.walter_audit.proofs.Asked.{journal_at, found_first, none_more, none_at_all, first_by}
use Rattle.walter_audit.proofs.Fronts.{range_below}
use Rattle.walter_audit.proofs.Numbered.{counts_entry}
use Rattle.walter_audit.proofs.Telling.{count_front}

-- a number of a site that the vector hasn't is 0
past_end : (vector : List ℕ) (n : ℕ) → length vector ≤ n → slice_index vector n ≡ 0
past_end [] n out = refl
past_end (x ∷ xs) zero out = absurd (omega (arith, out))
past_end (x ∷ xs) (suc n) out = past_end xs n (omega (arith, out))

-- no front counts more commits than it has records
count_within : (i k : SiteId) (records : List Record) → count i records k ≤ length records
count_within i k [] = omega arith
count_within i k (rec ∷ records) =
    let rest = count_within i k records in
    let sums = count_by-append (commits_of i k) (rec ∷ []) records in
    let one : count_by (commits_of i k) (rec ∷ []) ≤ 1 = elim (commits_of i k rec) as (λ b. 0 + (if b then 1 else 0) ≤ 1) [
      | true ↦ omega arith
      | false ↦ omega arith
    ] in
    omega (arith, rest, sums, one)

module _ (n : ℕ) (i : SiteId) (records : List Record) where
  -- the counts at each place up to one, where those of the records before it are these
  pub record AreFrontsTo (upto : ℕ) (counts : List ℕ) (fronts : List (List ℕ)) : Type 0 where
    pub now : AreCountsOf n i (take upto records) counts
    pub many : length fronts ≡ upto + 1
    pub each : (p : ℕ) (v : List ℕ) → slice_get fronts p ≡ Some v → AreCountsOf n i (take p records) v

  -- and no number is too great
  pub counts_fit : (upto : ℕ) (counts : List ℕ) (fronts : List (List ℕ)) → upto ≤ length records → AreFrontsTo upto counts fronts
      → (k : SiteId) → entry_at counts k ≤ upto
  counts_fit upto counts fronts low F k = elim (low_or k.0 n) [
    | inl l ↦
        let e = F.now.each k l in
        let some = count_within i k (take upto records) in
        let size = length-take-le upto records low in
        omega (arith, e, some, size)
    | inr out ↦
        let size = F.now.size in
        let none = past_end counts k.0 (omega (arith, size, out)) in
        omega (arith, none)
  ]

  -- one record more
  pub fronts_more : (upto : ℕ) (counts : List ℕ) (fronts : List (List ℕ)) (rec : Record) (next : List ℕ)
      → slice_get records upto ≡ Some rec → length next ≡ length counts
      → ((k : SiteId) → k.0 < length counts → entry_at next k ≡ entry_at counts k + (if commits_of i k rec then 1 else 0))
      → AreFrontsTo upto counts fronts → AreFrontsTo (upto + 1) next (fronts ++ next ∷ [])
  fronts_more upto counts fronts rec next at size each F = record {
    now = at_end (upto + 1) (omega arith);
    many = (let many = F.many in omega (arith, length-append fronts (next ∷ []), many));
    each = λ p v get. elim (slice_get-push_cases fronts next v p get) [
      | inl before ↦ F.each p v before.1
      | inr last ↦
          let place = last.0 in
          let many = F.many in
          subst (λ w. AreCountsOf n i (take p records) w) last.1 (at_end p (omega (arith, place, many)))
    ];
  }
    where
      one_more : (k : SiteId) → k.0 < n → entry_at next k ≡ count i (take (suc upto) records) k
      one_more k low =
          let old = F.now.each k low in
          let now_size = F.now.size in
          let new = each k (omega (arith, low, now_size)) in
          let front : take (suc upto) records ≡ take upto records ++ rec ∷ [] = take_push records upto rec at in
          let sums : count i (take (suc upto) records) k ≡ count i (take upto records) k + (0 + (if commits_of i k rec then 1 else 0)) =
          ap (λ rs. count i rs k) front ∙ count_by-append (commits_of i k) (take upto records) (rec ∷ []) in
          omega (arith, old, new, sums)

      at_end : (p : ℕ) → p ≡ suc upto → AreCountsOf n i (take p records) next
      at_end p e = subst (λ q. AreCountsOf n i (take q records) next) (sym e) (record {
        size = (let s = F.now.size in omega (arith, size, s));
        each = one_more;
      })

  pub fronts_begun : (zeros : List ℕ) → length zeros ≡ n → ((k : ℕ) → slice_index zeros k ≡ 0)
      → AreFrontsTo 0 zeros (zeros ∷ [])
  fronts_begun zeros size none = record {
    now = record { size = size; each = λ k low. none k.0 };
    many = refl;
    each = λ p v get. by p v get;
  }
    where
      by : (p : ℕ) (v : List ℕ) → slice_get (zeros ∷ []) p ≡ Some v → AreCountsOf n i (take p records) v
      by zero v get = subst (λ w. AreCountsOf n i [] w) (same_Some zeros v get) (record { size = size; each = λ k low. none k.0 })
      by (suc p) v get = absurd cc

  pub fronts_are : (upto : ℕ) (counts : List ℕ) (fronts : List (List ℕ)) → upto ≡ length records
      → AreFrontsTo upto counts fronts → AreFronts n i records fronts
  fronts_are upto counts fronts all F = record { many = (let m = F.many in omega (arith, m, all)); each = F.each }

  -- the counts rise
  pub fronts_rise : (fronts : List (List ℕ)) → AreFronts n i records fronts → AreRising fronts
  fronts_rise fronts F k m v w low at_k at_m j = elim (low_or j n) [
    | inl l ↦
        let a = (F.each k v at_k).each (site_at j) l in
        let b = (F.each m w at_m).each (site_at j) l in
        let up : count i (take k records) (site_at j) ≤ count i (take m records) (site_at j) =
        subst (λ rs. count i rs (site_at j) ≤ count i (take m records) (site_at j)) (take-take k m records low)
        (count_front i (site_at j) (take m records) k) in
        omega (arith, a, b, up)
    | inr out ↦
        let size = (F.each k v at_k).size in
        let none = past_end v j (omega (arith, size, out)) in
        omega (arith, none)
  ]

-- the places between which the first is that covers the start
pub record IsBetween (fronts : List (List ℕ)) (start : List ℕ) (low high : ℕ) : Type 0 where
  pub order : low ≤ high
  pub within : high ≤ length fronts
  pub before : (k : ℕ) (v : List ℕ) → k < low → slice_get fronts k ≡ Some v → ¬ Covers v start
  pub at : (v : List ℕ) → slice_get fronts high ≡ Some v → Covers v start

pub covers_through : (v w start : List ℕ) → Covers v start → Covers w v → Covers w start
covers_through v w start a b k = let x = a k in let y = b k in omega (arith, x, y)

pub down_to : (fronts : List (List ℕ)) (start : List ℕ) (low high middle : ℕ) (v : List ℕ) → IsBetween fronts start low high
    → low ≤ middle → middle < high → slice_get fronts middle ≡ Some v → Covers v start → IsBetween fronts start low middle
down_to fronts start low high middle v B above below get covers = record {
  order = above;
  within = (let w = B.within in omega (arith, w, below));
  before = B.before;
  at = λ u again. subst (λ z. Covers z start) (same_Some v u (sym get ∙ again)) covers;
}

pub up_from : (fronts : List (List ℕ)) (start : List ℕ) (low high middle : ℕ) (v : List ℕ) → AreRising fronts
    → IsBetween fronts start low high → middle < high → slice_get fronts middle ≡ Some v → ¬ Covers v start
    → IsBetween fronts start (middle + 1) high
up_from fronts start low high middle v rising B below get misses = record {
  order = omega (arith, below);
  within = B.within;
  before = λ k u less at_k covers. misses (covers_through u v start covers (rising k middle u v (omega (arith, less)) at_k get));
  at = B.at;
}

pub match_at : (fronts : List (List ℕ)) (start : List ℕ) (first place : ℕ) (v : List ℕ) → AreRising fronts
    → ((k : ℕ) (u : List ℕ) → k < first → slice_get fronts k ≡ Some u → ¬ Covers u start)
    → slice_get fronts first ≡ Some v → HasMatch fronts place start → (first ≤ place) × Covers start v
match_at fronts start first place v rising before get has =
    let early : first ≤ has.0 = elim (low_or has.0 first) [
      | inl l ↦ absurd (before has.0 has.1 l has.3 has.4)
      | inr g ↦ g
    ] in
    let low = has.2 in
    (omega (arith, early, low), covers_through has.1 start v (rising first has.0 v has.1 early get has.3) has.5)

pub no_match : (fronts : List (List ℕ)) (start : List ℕ) (first place : ℕ)
    → ((k : ℕ) (u : List ℕ) → k < first → slice_get fronts k ≡ Some u → ¬ Covers u start)
    → slice_get fronts first ≡ None → ¬ HasMatch fronts place start
no_match fronts start first place before none has =
    let within = slice_get_within fronts has.0 has.1 has.3 in
    elim (low_or has.0 first) [
      | inl l ↦ before has.0 has.1 l has.3 has.4
      | inr g ↦ past fronts first has.0 has.1 g none has.3
    ]
  where
    past : (xs : List (List ℕ)) (m p : ℕ) (u : List ℕ) → m ≤ p → slice_get xs m ≡ None → slice_get xs p ≡ Some u → ⊥
    past [] m p u low e f = cc
    past (x ∷ xs) zero p u low e f = cc
    past (x ∷ xs) (suc m) zero u low e f = omega (arith, low)
    past (x ∷ xs) (suc m) (suc p) u low e f = past xs m p u (omega (arith, low)) e f

module _ (catalog : Catalog) (i : SiteId) (records : List Record) (fronts : List (List ℕ))
    (F : AreFronts catalog.sites i records fronts) where
  pub front_at : (p : ℕ) → p ≤ length records → (v : List ℕ) × (slice_get fronts p ≡ Some v)
  front_at p low = has fronts p (let m = F.many in omega (arith, m, low))
    where
      has : {X : Type 0} (xs : List X) (q : ℕ) → q < length xs → (x : X) × (slice_get xs q ≡ Some x)
      has [] q l = absurd (omega (arith, l))
      has (x ∷ xs) zero l = (x, refl)
      has (x ∷ xs) (suc q) l = has xs q (omega (arith, l))

  -- the counts of a front are a start where the two cover each other
  pub counts_alike : (p : ℕ) (v start : List ℕ) → slice_get fronts p ≡ Some v → Covers v start → Covers start v
      → are_counts catalog i (take p records) start ≡ true
  counts_alike p v start get more less = all_pass (λ k. nat_eq (count i (take p records) k) (entry_at start k)) (sites catalog)
      (λ k within.
      let from = made_from site_at (range_with_len 0 catalog.sites) k within in
      let below = range_below 0 catalog.sites from.0 from.1 in
      let e : from.0 ≡ k.0 = ap (λ (s : SiteId). s.0) from.2 in
      let number = (F.each p v get).each k (omega (arith, below, e)) in
      let a = more k.0 in
      let b = less k.0 in
      eq-eqb (count i (take p records) k) (entry_at start k) (omega (arith, number, a, b)))

  pub alike_counts : (p : ℕ) (v start : List ℕ) → length start ≡ catalog.sites → slice_get fronts p ≡ Some v
      → are_counts catalog i (take p records) start ≡ true → (k : ℕ) → slice_index v k ≡ slice_index start k
  alike_counts p v start size get is k = elim (low_or k catalog.sites) [
    | inl low ↦
        let number = (F.each p v get).each (site_at k) low in
        let same = counts_entry catalog i (take p records) start (site_at k) is low in
        omega (arith, number, same)
    | inr out ↦
        let v_size = (F.each p v get).size in
        let a = past_end v k (omega (arith, v_size, out)) in
        let b = past_end start k (omega (arith, size, out)) in
        omega (arith, a, b)
  ]

  unmatched_in : (index seq : ℕ) (tx : Tx) → index < length records → length tx.start ≡ catalog.sites
      → ¬ HasMatch fronts index tx.start → (p : ℕ) → p ≤ index → are_counts catalog i (take p records) tx.start ≡ false
  unmatched_in index seq tx within size none p low = elim (cases_Bool (are_counts catalog i (take p records) tx.start)) [
    | inl is ↦ absurd (
        let f = front_at p (omega (arith, low, within)) in
        let same = alike_counts p f.0 tx.start size f.1 is in
        none (p, f.0, low, f.1, (λ k. let e = same k in omega (arith, e)), (λ k. let e = same k in omega (arith, e))))
    | inr not ↦ not
  ]

  in_unmatched : (index seq : ℕ) (tx : Tx)
      → ((p : ℕ) → p ≤ index → are_counts catalog i (take p records) tx.start ≡ false) → ¬ HasMatch fronts index tx.start
  in_unmatched index seq tx never has =
      let e : true ≡ false = sym (counts_alike has.0 has.1 tx.start has.3 has.4 has.5) ∙ never has.0 has.2 in cc

  module _ (among : AreAmong catalog.sites records) where
    pub unstarted_there : (index : ℕ) → IsSoAt (IsUnmatched fronts) i records index → IsSoAt (IsUnstartedIn catalog records) i records index
    unstarted_there index (Own seq tx, at, none) = (
      Own seq tx,
      at,
      unmatched_in index seq tx (slice_get_within records index (Own seq tx) at) (among index seq tx at) none,
    )
    unstarted_there index (rec, at, none) = absurd none

    pub there_unstarted : (index : ℕ) → IsSoAt (IsUnstartedIn catalog records) i records index → IsSoAt (IsUnmatched fronts) i records index
    there_unstarted index (Own seq tx, at, never) = (Own seq tx, at, in_unmatched index seq tx never)
    there_unstarted index (rec, at, never) = absurd never

    pub unstarted_first : (found : Option ℕ) → IfSome found (IsFirstPlace (IsUnmatched fronts) i records)
        → IfSome found (IsFirstPlace (IsUnstartedIn catalog records) i records)
    unstarted_first None first = tt
    unstarted_first (Some index) first = record {
      so = unstarted_there index first.so;
      least = λ k low so. first.least k low (there_unstarted k so);
    }

    pub unstarted_none : (found : Option ℕ) → IfNone found ((index : ℕ) → ¬ IsSoAt (IsUnmatched fronts) i records index)
        → IfNone found ((index : ℕ) → ¬ IsSoAt (IsUnstartedIn catalog records) i records index)
    unstarted_none None none = λ index so. none index (there_unstarted index so)
    unstarted_none (Some index) none = tt

module _ (catalog : Catalog) (all : List (List Record)) where
  abbrev Unstarted : Named → Type 0
  Unstarted a = IsUnstarted catalog (journals_of all) a

  abbrev Asked : Named → Record → Type 0
  Asked a rec = IsUnstartedIn catalog (journals_of all a.site) a rec

  to_reason : (a : Named) → IsSo Asked (journals_of all) a → Unstarted a
  to_reason a (Own seq tx, at, never) = record { seq = seq; tx = tx; here = at; never = never }
  to_reason a (rec, at, never) = absurd never

  from_reason : (a : Named) → Unstarted a → IsSo Asked (journals_of all) a
  from_reason a u = (Own u.seq u.tx, u.here, u.never)

  -- what is asked of the records of a site is asked of all there
  there : (n : ℕ) (records : List Record) → slice_get all n ≡ Some records → (index : ℕ)
      → IsSoAt (IsUnstartedIn catalog records) (site_at n) records index → IsSoAt Asked (site_at n) records index
  there n records at index so = (
    so.0,
    so.1,
    subst (λ rs. IsUnstartedIn catalog rs (record { site = site_at n; index = index }) so.0) (sym (journal_at all n records at)) so.2,
  )

  back : (n : ℕ) (records : List Record) → slice_get all n ≡ Some records → (index : ℕ)
      → IsSoAt Asked (site_at n) records index → IsSoAt (IsUnstartedIn catalog records) (site_at n) records index
  back n records at index so = (
    so.0,
    so.1,
    subst (λ rs. IsUnstartedIn catalog rs (record { site = site_at n; index = index }) so.0) (journal_at all n records at) so.2,
  )

  pub found_unstarted : (n : ℕ) (records : List Record) → slice_get all n ≡ Some records
      → ((a : Named) → a.site.0 < n → ¬ Unstarted a) → (index : ℕ)
      → IsFirstPlace (IsUnstartedIn catalog records) (site_at n) records index
      → IsFirst Unstarted (record { site = site_at n; index = index })
  found_unstarted n records at before index first = first_by (IsSo Asked (journals_of all)) Unstarted to_reason from_reason
      (Some (record { site = site_at n; index = index }))
      (found_first Asked all n records at (λ a low so. before a low (to_reason a so)) index (record {
        so = there n records at index first.so;
        least = λ k low so. first.least k low (back n records at k so);
      }))

  pub none_more_unstarted : (n : ℕ) (records : List Record) → slice_get all n ≡ Some records
      → ((a : Named) → a.site.0 < n → ¬ Unstarted a)
      → ((index : ℕ) → ¬ IsSoAt (IsUnstartedIn catalog records) (site_at n) records index)
      → (a : Named) → a.site.0 < n + 1 → ¬ Unstarted a
  none_more_unstarted n records at before none a low u = none_more Asked all n records at
      (λ b l so. before b l (to_reason b so)) (λ index so. none index (back n records at index so)) a low (from_reason a u)

  pub none_unstarted_at_all : (n : ℕ) → length all ≤ n → ((a : Named) → a.site.0 < n → ¬ Unstarted a) → (a : Named) → ¬ Unstarted a
  none_unstarted_at_all n past before a u = none_at_all Asked all n past (λ b l so. before b l (to_reason b so)) a (from_reason a u)
