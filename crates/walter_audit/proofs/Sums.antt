-- A front's counts have the number of its items for a sum: so only the front with so many items as a start sums to can have
-- the start for its counts.
use Rattle.std.proofs.Common.{◌≡◌, ◌≢◌, ◌+◌, ◌<◌, ◌≤◌, ℕ, zero, suc, List, [], ◌∷◌, ◌++◌, refl, ap, sym, ◌∙◌, subst, arith, inl, inr, if◌then◌else◌, true, false}
use Rattle.std.specs.Prelude.{Bool, Contains, count_by}
use Rattle.std.specs.List.{range_with_len}
use Rattle.std.proofs.lemmas.List.Elements.{Contains-append_left, Contains-push}
use Rattle.walter_base.specs.declared.catalog.Catalog.{Catalog}
use Rattle.walter_base.specs.declared.message.Record.{Record}
use Rattle.walter_base.specs.declared.message.Record.TheVariants.{Boot, Own, Got, Seen, Prepared, Released, SlowBegin, SlowEnd, Marks, Format as FormatRecord}
use Rattle.walter_base.specs.declared.names.SiteId.{SiteId}
use Rattle.walter_base.specs.Names.{same_site}
use Rattle.walter_base.specs.Vectors.{entry_at}
use Rattle.walter_rules.specs.Knowledge.{site_at}
use Rattle.walter_agreement.proofs.Cases.{site_cases}
use Rattle.walter_refinement.proofs.SameReads.{count_by-append}
use Rattle.walter_psi.proofs.Lists.{push_induction}
use Rattle.walter_audit.specs.Journals.{commits_of, count, are_counts}
use Rattle.walter_audit.proofs.Numbered.{counts_entry}

-- whether a record is an item: an own commit, or one that is seen
abbrev pub is_item : Record → Bool
is_item (Own seq tx) = true
is_item (Seen j seq) = true
is_item rec = false

abbrev pub items_in : List Record → ℕ
items_in records = count_by is_item records

-- one where it is so
abbrev one_if : Bool → ℕ
one_if b = if b then 1 else 0

-- the sum of the counts over the sites from this number on
abbrev total : SiteId → List Record → List ℕ → ℕ
total i records [] = 0
total i records (n ∷ ns) = count i records (site_at n) + total i records ns

-- of one site among these there is one, and of one that isn't there is none
abbrev ones : SiteId → List ℕ → ℕ
ones j [] = 0
ones j (n ∷ ns) = one_if (same_site j (site_at n)) + ones j ns

none_of : (j : SiteId) (a n : ℕ) → j.0 < a → ones j (range_with_len a n) ≡ 0
none_of j a zero low = refl
none_of j a (suc n) low =
    let rest = none_of j (a + 1) n (omega (arith, low)) in
    elim (site_cases j (site_at a)) [
      | inl same ↦ absurd (let e : j.0 ≡ a = ap (λ (k : SiteId). k.0) same.1 in omega (arith, low, e))
      | inr apart ↦ let e : one_if (same_site j (site_at a)) ≡ 0 = rw apart.0 refl in omega (arith, rest, e)
    ]

one_of : (j : SiteId) (a n : ℕ) → a ≤ j.0 → j.0 < a + n → ones j (range_with_len a n) ≡ 1
one_of j a zero low high = absurd (omega (arith, low, high))
one_of j a (suc n) low high = elim (site_cases j (site_at a)) [
  | inl same ↦
      let e : j.0 ≡ a = ap (λ (k : SiteId). k.0) same.1 in
      let rest = none_of j (a + 1) n (omega (arith, e)) in
      let one : one_if (same_site j (site_at a)) ≡ 1 = rw same.0 refl in
      omega (arith, rest, one)
  | inr apart ↦
      let more : a ≢ j.0 = λ e. apart.1 (λ t. record { 0 = sym e t }) in
      let rest = one_of j (a + 1) n (omega (arith, low, more)) (omega (arith, high)) in
      let none : one_if (same_site j (site_at a)) ≡ 0 = rw apart.0 refl in
      omega (arith, rest, none)
]

-- at how many of these sites a record counts
abbrev counts_one : SiteId → Record → List ℕ → ℕ
counts_one i rec [] = 0
counts_one i rec (n ∷ ns) = one_if (commits_of i (site_at n) rec) + counts_one i rec ns

as_ones : (i j : SiteId) (rec : Record) → ((k : SiteId) → commits_of i k rec ≡ same_site j k) → (ns : List ℕ)
    → counts_one i rec ns ≡ ones j ns
as_ones i j rec same [] = refl
as_ones i j rec same (n ∷ ns) =
    let first : one_if (commits_of i (site_at n) rec) ≡ one_if (same_site j (site_at n)) =
    ap one_if (same (site_at n)) in
    let rest = as_ones i j rec same ns in
    omega (arith, first, rest)

as_none : (i : SiteId) (rec : Record) → ((k : SiteId) → commits_of i k rec ≡ false) → (ns : List ℕ) → counts_one i rec ns ≡ 0
as_none i rec same [] = refl
as_none i rec same (n ∷ ns) =
    let first : one_if (commits_of i (site_at n) rec) ≡ 0 = ap one_if (same (site_at n)) in
    let rest = as_none i rec same ns in
    omega (arith, first, rest)

total_push : (i : SiteId) (records : List Record) (rec : Record) (ns : List ℕ)
    → total i (records ++ rec ∷ []) ns ≡ total i records ns + counts_one i rec ns
total_push i records rec [] = refl
total_push i records rec (n ∷ ns) =
    let one : count i (records ++ rec ∷ []) (site_at n) ≡ count i records (site_at n) + (0 + one_if (commits_of i (site_at n) rec)) =
    count_by-append (commits_of i (site_at n)) records (rec ∷ []) in
    let rest = total_push i records rec ns in
    omega (arith, one, rest)

none_total : (i : SiteId) (ns : List ℕ) → total i [] ns ≡ 0
none_total i [] = refl
none_total i (n ∷ ns) = let rest = none_total i ns in omega (arith, rest)

-- what is counted is of a site below this number
abbrev pub AreBelow : ℕ → List Record → Type 0
AreBelow most records = (j : SiteId) (seq : ℕ) → Contains records (Seen j seq) → j.0 < most

module _ (i : SiteId) (most : ℕ) (here : i.0 < most) where
  one_more : (records : List Record) (rec : Record) → ((j : SiteId) (seq : ℕ) → rec ≡ Seen j seq → j.0 < most)
      → total i records (range_with_len 0 most) ≡ items_in records
      → total i (records ++ rec ∷ []) (range_with_len 0 most) ≡ items_in (records ++ rec ∷ [])
  one_more records rec low before =
      let left = total_push i records rec (range_with_len 0 most) in
      let right : items_in (records ++ rec ∷ []) ≡ items_in records + (0 + one_if (is_item rec)) =
      count_by-append is_item records (rec ∷ []) in
      let one = by rec low in
      omega (arith, left, right, one, before)
    where
      by : (z : Record) → ((j : SiteId) (seq : ℕ) → z ≡ Seen j seq → j.0 < most)
          → counts_one i z (range_with_len 0 most) ≡ one_if (is_item z)
      by (Own seq tx) l = as_ones i i (Own seq tx) (λ k. refl) (range_with_len 0 most) ∙ one_of i 0 most (omega arith) (omega (arith, here))
      by (Seen j seq) l = as_ones i j (Seen j seq) (λ k. refl) (range_with_len 0 most)
          ∙ (let b = l j seq refl in one_of j 0 most (omega arith) (omega (arith, b)))
      by (Boot epoch) l = as_none i (Boot epoch) (λ k. refl) (range_with_len 0 most)
      by (Got j seq tx) l = as_none i (Got j seq tx) (λ k. refl) (range_with_len 0 most)
      by (Prepared j n tid objects) l = as_none i (Prepared j n tid objects) (λ k. refl) (range_with_len 0 most)
      by (Released j n) l = as_none i (Released j n) (λ k. refl) (range_with_len 0 most)
      by (SlowBegin n tx) l = as_none i (SlowBegin n tx) (λ k. refl) (range_with_len 0 most)
      by (SlowEnd n) l = as_none i (SlowEnd n) (λ k. refl) (range_with_len 0 most)
      by (Marks durable visible) l = as_none i (Marks durable visible) (λ k. refl) (range_with_len 0 most)
      by FormatRecord l = as_none i FormatRecord (λ k. refl) (range_with_len 0 most)

  pub total_items : (records : List Record) → AreBelow most records → total i records (range_with_len 0 most) ≡ items_in records
  total_items = push_induction (λ records. AreBelow most records → total i records (range_with_len 0 most) ≡ items_in records)
      (λ low. none_total i (range_with_len 0 most))
      (λ records rec before low. one_more records rec
      (λ j seq e. low j seq (subst (λ z. Contains (records ++ z ∷ []) (Seen j seq)) (sym e) (Contains-push records (Seen j seq))))
      (before (λ j seq c. low j seq (Contains-append_left records (rec ∷ []) (Seen j seq) c))))

-- what a start sums to
abbrev pub start_sum : List ℕ → List ℕ → ℕ
start_sum start [] = 0
start_sum start (n ∷ ns) = entry_at start (site_at n) + start_sum start ns

sums_from : (catalog : Catalog) (i : SiteId) (records : List Record) (start : List ℕ) → are_counts catalog i records start ≡ true
    → (a n : ℕ) → a + n ≤ catalog.sites → total i records (range_with_len a n) ≡ start_sum start (range_with_len a n)
sums_from catalog i records start is a zero low = refl
sums_from catalog i records start is a (suc n) low =
    let first = counts_entry catalog i records start (site_at a) is (omega (arith, low)) in
    let rest = sums_from catalog i records start is (a + 1) n (omega (arith, low)) in
    omega (arith, first, rest)

-- a front whose counts are a start has as many items as that sums to
pub start_items : (catalog : Catalog) (i : SiteId) (records : List Record) (start : List ℕ) → i.0 < catalog.sites
    → AreBelow catalog.sites records → are_counts catalog i records start ≡ true
    → items_in records ≡ start_sum start (range_with_len 0 catalog.sites)
start_items catalog i records start below low is =
    sym (total_items i catalog.sites below records low) ∙ sums_from catalog i records start is 0 catalog.sites (omega arith)
