-- Of records each of which can follow those before it: the commits of a site stand there by their numbers.
use Rattle.std.proofs.Common.{◌≡◌, ◌≢◌, ◌+◌, ◌-◌, ◌<◌, ◌≤◌, ◌⊎◌, ℕ, zero, suc, nat_eq, List, [], ◌∷◌, ◌++◌, take, slice_get, Some, None, refl, ap, sym, ◌∙◌, subst, arith, inl, inr, if◌then◌else◌, true, false}
use Rattle.std.specs.Prelude.{Option, Bool, flat_map, count_by}
use Rattle.std.specs.List.{range_with_len}
use Rattle.std.proofs.lemmas.Bool.{cases_order, eqb-true}
use Rattle.std.proofs.lemmas.List.{take-take}
use Rattle.std.proofs.lemmas.Option.{same_Some}
use Rattle.walter_base.specs.declared.catalog.Catalog.{Catalog}
use Rattle.walter_base.specs.declared.message.Record.{Record}
use Rattle.walter_base.specs.declared.message.Record.TheVariants.{Boot, Own, Got, Seen, Prepared, Released, SlowBegin, SlowEnd, Marks, Format as FormatRecord}
use Rattle.walter_base.specs.declared.names.SiteId.{SiteId}
use Rattle.walter_base.specs.declared.transaction.Tx.{Tx}
use Rattle.walter_base.specs.Vectors.{entry_at}
use Rattle.walter_base.proofs.NameTests.{same_site-true, same_site_refl}
use Rattle.walter_rules.specs.Knowledge.{fresh, sites, site_at}
use Rattle.walter_rules.specs.Records.{CanAllFollow}
use Rattle.walter_rules.proofs.Membership.{each_passes, in_range}
use Rattle.walter_agreement.proofs.Cases.{site_cases, low_or}
use Rattle.walter_agreement.proofs.Lists.{take_push}
use Rattle.walter_alone.proofs.TestsPass.{is_made}
use Rattle.walter_refinement.proofs.SameReads.{count_by-append}
use Rattle.walter_audit.specs.Journals.{Journals, own_of, own_at, commits_of, count, are_counts}
use Rattle.walter_audit.proofs.Telling.{committed_told, follows_at, own_number, seen_there, count_behind}

-- the record commits site k's commit of this number at site i
abbrev pub DoesCommit : SiteId → SiteId → ℕ → Record → Type 0
DoesCommit i k m (Own seq tx) = (i ≡ k) × (seq ≡ m)
DoesCommit i k m (Seen j seq) = (j ≡ k) × (seq ≡ m)
DoesCommit i k m rec = ⊥

-- one record more counts one more or none
pub count_push : (i k : SiteId) (records : List Record) (p : ℕ) (rec : Record) → slice_get records p ≡ Some rec
    → ((commits_of i k rec ≡ true) × (count i (take (suc p) records) k ≡ count i (take p records) k + 1))
    ⊎ ((commits_of i k rec ≡ false) × (count i (take (suc p) records) k ≡ count i (take p records) k))
count_push i k records p rec at =
    let sums = ap (λ rs. count i rs k) (take_push records p rec at) ∙ count_by-append (commits_of i k) (take p records) (rec ∷ []) in
    by (commits_of i k rec) refl sums
  where
    by : (b : Bool) → commits_of i k rec ≡ b
        → count i (take (suc p) records) k ≡ count i (take p records) k + count_by (commits_of i k) (rec ∷ [])
        → ((commits_of i k rec ≡ true) × (count i (take (suc p) records) k ≡ count i (take p records) k + 1))
        ⊎ ((commits_of i k rec ≡ false) × (count i (take (suc p) records) k ≡ count i (take p records) k))
    by true is sums =
        let one : count_by (commits_of i k) (rec ∷ []) ≡ 1 = ap (λ b. 0 + (if b then 1 else 0)) is in
        inl (is, omega (arith, sums, one))
    by false is sums =
        let none : count_by (commits_of i k) (rec ∷ []) ≡ 0 = ap (λ b. 0 + (if b then 1 else 0)) is in
        inr (is, omega (arith, sums, none))

module _ (catalog : Catalog) (i : SiteId) (records : List Record) (follow : CanAllFollow catalog i fresh records) where
  -- what a record commits has the number that is next
  commits_next : (k : SiteId) (p : ℕ) (rec : Record) → slice_get records p ≡ Some rec → commits_of i k rec ≡ true
      → DoesCommit i k (count i (take p records) k + 1) rec
  commits_next k p (Own seq tx) at is =
      let e = same_site-true i k is in
      (e, subst (λ j. seq ≡ count i (take p records) j + 1) e (own_number catalog i records follow p seq tx at))
  commits_next k p (Seen j seq) at is =
      let e = same_site-true j k is in
      let f = (follows_at catalog i fresh records p (Seen j seq) follow at).next in
      let told = committed_told catalog i fresh (take p records) j in
      (e, subst (λ z. seq ≡ count i (take p records) z + 1) e (omega (arith, f, told)))
  commits_next k p (Boot epoch) at is = absurd cc
  commits_next k p (Got j seq tx) at is = absurd cc
  commits_next k p (Prepared j n tid objects) at is = absurd cc
  commits_next k p (Released j n) at is = absurd cc
  commits_next k p (SlowBegin n tx) at is = absurd cc
  commits_next k p (SlowEnd n) at is = absurd cc
  commits_next k p (Marks durable visible) at is = absurd cc
  commits_next k p FormatRecord at is = absurd cc

  -- of the commits of a site that records count each stands there
  pub counted_stands : (k : SiteId) (m p : ℕ) → 1 ≤ m → m ≤ count i (take p records) k
      → (q : ℕ) × (rec : Record) × (q < p) × (slice_get records q ≡ Some rec) × DoesCommit i k m rec
  counted_stands k m zero some low = absurd (omega (arith, some, low))
  counted_stands k m (suc p) some low =
      let before = counted_stands k m p some in
      by (slice_get records p) refl before
    where
      by : (o : Option Record) → slice_get records p ≡ o
          → (m ≤ count i (take p records) k → (q : ℕ) × (rec : Record) × (q < p) × (slice_get records q ≡ Some rec) × DoesCommit i k m rec)
          → (q : ℕ) × (rec : Record) × (q < suc p) × (slice_get records q ≡ Some rec) × DoesCommit i k m rec
      by None at before =
          let same : take (suc p) records ≡ take p records = past p records at in
          let e = ap (λ rs. count i rs k) same in
          let r = before (omega (arith, low, e)) in
          let l = r.2 in
          (r.0, r.1, omega (arith, l), r.3, r.4)
        where
          past : {X : Type 0} (p : ℕ) (xs : List X) → slice_get xs p ≡ None → take (suc p) xs ≡ take p xs
          past zero [] at = refl
          past (suc p) [] at = refl
          past zero (x ∷ xs) at = absurd cc
          past (suc p) (x ∷ xs) at = ap (λ t. x ∷ t) (past p xs at)
      by (Some rec) at before = elim (count_push i k records p rec at) [
        | inr none ↦
            let e = none.1 in
            let r = before (omega (arith, low, e)) in
            let l = r.2 in
            (r.0, r.1, omega (arith, l), r.3, r.4)
        | inl one ↦ elim (low_or (count i (take p records) k) m) [
          | inr within ↦
              let r = before within in
              let l = r.2 in
              (r.0, r.1, omega (arith, l), r.3, r.4)
          | inl last ↦
              let e = one.1 in
              let number : m ≡ count i (take p records) k + 1 = omega (arith, low, e, last) in
              (p, rec, omega arith, at, subst (λ n. DoesCommit i k n rec) (sym number) (commits_next k p rec at one.0))
        ]
      ]

  -- two own commits of one number are one record
  pub own_place : (p q seq : ℕ) (x y : Tx) → slice_get records p ≡ Some (Own seq x) → slice_get records q ≡ Some (Own seq y) → p ≡ q
  own_place p q seq x y a b = elim (cases_order p q) [
    | inl same ↦ same
    | inr apart ↦ elim apart [
      | inl sooner ↦ absurd (never p q x y a b sooner)
      | inr later ↦ absurd (never q p y x b a later)
    ]
  ]
    where
      never : (p q : ℕ) (x y : Tx) → slice_get records p ≡ Some (Own seq x) → slice_get records q ≡ Some (Own seq y) → p < q → ⊥
      never p q x y a b l =
          let first = own_number catalog i records follow p seq x a in
          let second = own_number catalog i records follow q seq y b in
          let here : slice_get (take q records) p ≡ Some (Own seq x) = Rattle.walter_psi.proofs.Lists.slice_get-take records q p l ∙ a in
          let behind = count_behind i i (take q records) p (Own seq x) here (same_site_refl i) in
          let same = ap (λ rs. count i rs i) (take-take p q records (omega (arith, l))) in
          omega (arith, first, second, behind, same)

  -- and so are two that see one commit
  pub seen_place : (p q : ℕ) (j : SiteId) (seq : ℕ) → slice_get records p ≡ Some (Seen j seq) → slice_get records q ≡ Some (Seen j seq) → p ≡ q
  seen_place p q j seq a b = elim (cases_order p q) [
    | inl same ↦ same
    | inr apart ↦ elim apart [
      | inl sooner ↦ absurd (never p q a b sooner)
      | inr later ↦ absurd (never q p b a later)
    ]
  ]
    where
      never : (p q : ℕ) → slice_get records p ≡ Some (Seen j seq) → slice_get records q ≡ Some (Seen j seq) → p < q → ⊥
      never p q a b l =
          let first = (commits_next j p (Seen j seq) a (same_site_refl j)).1 in
          let second = (commits_next j q (Seen j seq) b (same_site_refl j)).1 in
          let here : slice_get (take q records) p ≡ Some (Seen j seq) = Rattle.walter_psi.proofs.Lists.slice_get-take records q p l ∙ a in
          let behind = count_behind i j (take q records) p (Seen j seq) here (same_site_refl j) in
          let same = ap (λ rs. count i rs j) (take-take p q records (omega (arith, l))) in
          omega (arith, first, second, behind, same)

  -- the own commit of a number is the one at its place among own commits
  pub own_found : (journals : Journals) → journals i ≡ records → (p seq : ℕ) (tx : Tx) → slice_get records p ≡ Some (Own seq tx)
      → own_at journals i seq ≡ Some tx
  own_found journals is p seq tx at =
      let number = own_number catalog i records follow p seq tx at in
      let e : seq - 1 ≡ count i (take p records) i = omega (arith, number) in
      ap (λ rs. slice_get (flat_map own_of rs) (seq - 1)) is
      ∙ (ap (λ n. slice_get (flat_map own_of records) n) e ∙ ranked records p seq tx (λ q j m z. not_seen q j m z) at)
    where
      not_seen : (q : ℕ) (j : SiteId) (m : ℕ) → slice_get records q ≡ Some (Seen j m) → j ≢ i
      not_seen q j m at = (seen_there catalog i records follow q j m at).0

      ranked : (rs : List Record) (p seq : ℕ) (tx : Tx)
          → ((q : ℕ) (j : SiteId) (m : ℕ) → slice_get rs q ≡ Some (Seen j m) → j ≢ i)
          → slice_get rs p ≡ Some (Own seq tx)
          → slice_get (flat_map own_of rs) (count i (take p rs) i) ≡ Some tx
      ranked [] p seq tx away at = absurd cc
      ranked (r ∷ rs) zero seq tx away at =
          let one : r ≡ Own seq tx = same_Some r (Own seq tx) at in
          ap (λ z. slice_get (own_of z ++ flat_map own_of rs) 0) one
      ranked (r ∷ rs) (suc p) seq tx away at =
          let rest = ranked rs p seq tx (λ q j m h. away (suc q) j m h) at in
          let sums = count_by-append (commits_of i i) (r ∷ []) (take p rs) in
          behind r (away 0) rest sums
        where
          behind : (z : Record) → ((j : SiteId) (m : ℕ) → Some z ≡ Some (Seen j m) → j ≢ i)
              → slice_get (flat_map own_of rs) (count i (take p rs) i) ≡ Some tx
              → count i (z ∷ take p rs) i ≡ count_by (commits_of i i) (z ∷ []) + count i (take p rs) i
              → slice_get (own_of z ++ flat_map own_of rs) (count i (z ∷ take p rs) i) ≡ Some tx
          behind (Own m y) away_one rest sums =
              let one : count_by (commits_of i i) (Own m y ∷ []) ≡ 1 = ap (λ b. 0 + (if b then 1 else 0)) (same_site_refl i) in
              let e : count i (Own m y ∷ take p rs) i ≡ suc (count i (take p rs) i) = omega (arith, sums, one) in
              ap (λ n. slice_get (y ∷ flat_map own_of rs) n) e ∙ rest
          behind (Seen j m) away_one rest sums =
              let none : count_by (commits_of i i) (Seen j m ∷ []) ≡ 0 = elim (site_cases j i) [
                | inl same ↦ absurd (away_one j m refl same.1)
                | inr apart ↦ ap (λ b. 0 + (if b then 1 else 0)) apart.0
              ] in
              let e : count i (Seen j m ∷ take p rs) i ≡ count i (take p rs) i = omega (arith, sums, none) in
              ap (λ n. slice_get (flat_map own_of rs) n) e ∙ rest
          behind (Boot epoch) away_one rest sums = ap (λ n. slice_get (flat_map own_of rs) n) (omega (arith, sums)) ∙ rest
          behind (Got j m y) away_one rest sums = ap (λ n. slice_get (flat_map own_of rs) n) (omega (arith, sums)) ∙ rest
          behind (Prepared j m tid objects) away_one rest sums = ap (λ n. slice_get (flat_map own_of rs) n) (omega (arith, sums)) ∙ rest
          behind (Released j m) away_one rest sums = ap (λ n. slice_get (flat_map own_of rs) n) (omega (arith, sums)) ∙ rest
          behind (SlowBegin m y) away_one rest sums = ap (λ n. slice_get (flat_map own_of rs) n) (omega (arith, sums)) ∙ rest
          behind (SlowEnd m) away_one rest sums = ap (λ n. slice_get (flat_map own_of rs) n) (omega (arith, sums)) ∙ rest
          behind (Marks durable visible) away_one rest sums = ap (λ n. slice_get (flat_map own_of rs) n) (omega (arith, sums)) ∙ rest
          behind FormatRecord away_one rest sums = ap (λ n. slice_get (flat_map own_of rs) n) (omega (arith, sums)) ∙ rest

-- where the counts are a start, each site's count is the start's entry
pub counts_entry : (catalog : Catalog) (i : SiteId) (records : List Record) (start : List ℕ) (k : SiteId)
    → are_counts catalog i records start ≡ true → k.0 < catalog.sites → count i records k ≡ entry_at start k
counts_entry catalog i records start k is below =
    eqb-true (count i records k) (entry_at start k)
    (each_passes (λ j. nat_eq (count i records j) (entry_at start j)) (sites catalog) k is
    (is_made site_at (range_with_len 0 catalog.sites) k.0 (in_range 0 catalog.sites k.0 (omega arith) (omega (arith, below)))))
