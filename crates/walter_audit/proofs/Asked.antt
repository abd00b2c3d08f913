-- The first record, and the first pair, of which it is so, found by going over the sites and the records of each.
use Rattle.std.proofs.Common.{◌≡◌, ◌≢◌, ◌<◌, ◌≤◌, ◌+◌, ℕ, zero, suc, List, [], ◌∷◌, length, get_or, slice_get, Some, None, refl, ap, sym, ◌∙◌, subst, arith, inl, inr}
use Rattle.std.specs.Prelude.{Option, unwrap_or, IfSome, IfNone, IsTrue, Bool, true, false, is_some}
use Rattle.std.proofs.lemmas.Option.{same_Some, slice_get_within}
use Rattle.walter_base.specs.declared.message.Record.{Record}
use Rattle.walter_base.specs.declared.names.SiteId.{SiteId}
use Rattle.walter_agreement.proofs.Cases.{low_or}
use Rattle.walter_audit.specs.declared.finding.Named.{Named}
use Rattle.walter_audit.specs.Firsts.{IsSoAt, IsFirstPlace, IsSo, IsSoBeside, IsSoPair, IsFirst, IsFirstPair}
use Rattle.walter_audit.specs.Journals.{Journals, record_at, journals_of}

-- what is read at a place stands there
pub got_at : {X : Type 0} (xs : List X) (i : ℕ) (x : X) → i < length xs → x ≡ get_or xs i x → slice_get xs i ≡ Some x
got_at [] i x low e = absurd (omega (arith, low))
got_at (y ∷ ys) zero x low e = λ t. Some (sym e t)
got_at (y ∷ ys) (suc i) x low e = got_at ys i x (omega (arith, low)) e

-- behind the end nothing stands
pub none_past : {X : Type 0} (xs : List X) (i : ℕ) (x : X) → length xs ≤ i → slice_get xs i ≡ Some x → ⊥
none_past xs i x past at = let within = slice_get_within xs i x at in omega (arith, past, within)

-- where it isn't so of the record at a place, it isn't so there
pub not_here : (holds : Named → Record → Type 0) (site : SiteId) (records : List Record) (i : ℕ) (x : Record)
    → i < length records → x ≡ get_or records i x → (holds (record { site = site; index = i }) x → ⊥)
    → ¬ IsSoAt holds site records i
not_here holds site records i x low e not so =
    not (subst (λ r. holds (record { site = site; index = i }) r)
    (same_Some so.0 x (sym so.1 ∙ got_at records i x low e)) so.2)

abbrev at_site : ℕ → SiteId
at_site n = record { 0 = n }

-- the records of a site
pub journal_at : (all : List (List Record)) (n : ℕ) (records : List Record) → slice_get all n ≡ Some records
    → journals_of all (at_site n) ≡ records
journal_at all n records at = ap (λ o. unwrap_or o []) at

-- a record is of one of the sites
pub named_within : (all : List (List Record)) (a : Named) (rec : Record) → record_at (journals_of all) a ≡ Some rec
    → a.site.0 < length all
named_within all a rec at = elim (low_or a.site.0 (length all)) [
  | inl low ↦ low
  | inr out ↦ absurd (by all a.site.0 out at)
]
  where
    by : (xs : List (List Record)) (n : ℕ) → length xs ≤ n → slice_get (unwrap_or (slice_get xs n) []) a.index ≡ Some rec → ⊥
    by [] n out e = (let f : ◌≡◌ {A = Option Record} None (Some rec) = e in cc)
    by (x ∷ xs) zero out e = omega (arith, out)
    by (x ∷ xs) (suc n) out e = by xs n (omega (arith, out)) e

module _ (holds : Named → Record → Type 0) (all : List (List Record)) where
  abbrev IsSoOf : Named → Type 0
  IsSoOf a = IsSo holds (journals_of all) a

  -- it is so of a record of a site exactly where it is so at its place
  so_there : (n : ℕ) (records : List Record) → slice_get all n ≡ Some records → (a : Named) → a.site ≡ at_site n → IsSoOf a
      → IsSoAt holds (at_site n) records a.index
  so_there n records at a here so = (
    so.0,
    ap (λ rs. slice_get rs a.index) (sym (journal_at all n records at)) ∙ (ap (λ k. slice_get (journals_of all k) a.index) (sym here) ∙ so.1),
    subst (λ k. holds (record { site = k; index = a.index }) so.0) here so.2,
  )

  pub found_first : (n : ℕ) (records : List Record) → slice_get all n ≡ Some records
      → ((a : Named) → a.site.0 < n → ¬ IsSoOf a) → (index : ℕ) → IsFirstPlace holds (at_site n) records index
      → IsFirst IsSoOf (record { site = at_site n; index = index })
  found_first n records at before index first = record {
    so = (first.so.0, ap (λ rs. slice_get rs index) (journal_at all n records at) ∙ first.so.1, first.so.2);
    least = λ c so earlier. elim earlier [
      | inl low ↦ before c low so
      | inr same ↦ first.least c.index same.1 (so_there n records at c same.0 so)
    ];
  }

  pub none_more : (n : ℕ) (records : List Record) → slice_get all n ≡ Some records
      → ((a : Named) → a.site.0 < n → ¬ IsSoOf a) → ((index : ℕ) → ¬ IsSoAt holds (at_site n) records index)
      → (a : Named) → a.site.0 < n + 1 → ¬ IsSoOf a
  none_more n records at before none a low so = elim (low_or a.site.0 n) [
    | inl l ↦ before a l so
    | inr g ↦ none a.index (so_there n records at a (let e : a.site.0 ≡ n = omega (arith, low, g) in λ t. record { 0 = e t }) so)
  ]

  pub none_at_all : (n : ℕ) → length all ≤ n → ((a : Named) → a.site.0 < n → ¬ IsSoOf a) → (a : Named) → ¬ IsSoOf a
  none_at_all n past before a so =
      let within = named_within all a so.0 so.1 in
      before a (omega (arith, past, within)) so

-- the first of what comes to the same
pub first_by : (P Q : Named → Type 0) → ((a : Named) → P a → Q a) → ((a : Named) → Q a → P a) → (r : Option Named)
    → IfSome r (IsFirst P) → IfSome r (IsFirst Q)
first_by P Q to from None first = tt
first_by P Q to from (Some a) first = record { so = to a first.so; least = λ c q earlier. first.least c (from c q) earlier }

pub none_by : (P Q : Named → Type 0) → ((a : Named) → Q a → P a) → (r : Option Named)
    → IfNone r ((a : Named) → ¬ P a) → IfNone r ((a : Named) → ¬ Q a)
none_by P Q from None none = λ a q. none a (from a q)
none_by P Q from (Some a) none = tt

pub pair_by : (P Q : Named → Named → Type 0) → ((a b : Named) → P a b → Q a b) → ((a b : Named) → Q a b → P a b)
    → (r : Option (Named × Named)) → IfSome r (λ (a, b). IsFirstPair P a b) → IfSome r (λ (a, b). IsFirstPair Q a b)
pair_by P Q to from None first = tt
pair_by P Q to from (Some (a, b)) first = record {
  so = to a b first.so;
  least = λ c d q before. first.least c d (from c d q) before;
}

pub no_pair_by : (P Q : Named → Named → Type 0) → ((a b : Named) → Q a b → P a b) → (r : Option (Named × Named))
    → IfNone r ((a b : Named) → ¬ P a b) → IfNone r ((a b : Named) → ¬ Q a b)
no_pair_by P Q from None none = λ a b q. none a b (from a b q)
no_pair_by P Q from (Some pair) none = tt

-- there is one exactly where the first is found
pub found_or_none : (P : Named → Type 0) (r : Option Named) → IfSome r (IsFirst P) → IfNone r ((a : Named) → ¬ P a)
    → (IsTrue (is_some r) → (b : Named) × P b) × ((b : Named) × P b → IsTrue (is_some r))
found_or_none P None first none = (
  λ t. absurd (let e : ◌≡◌ {A = Bool} false true = t in cc),
  λ has. absurd (none has.0 has.1),
)
found_or_none P (Some a) first none = (λ t. (a, first.so), λ has. refl)

module _ (pairs : Named → Record → Named → Record → Type 0) (J : Journals) where
  -- the first record that is of a pair, and the first other one beside it
  pub pair_first : (a : Named) → IsFirst (IsSo (λ c first. IsSoBeside pairs J c first) J) a → (first : Record)
      → record_at J a ≡ Some first → (b : Named) → IsFirst (IsSo (λ c second. pairs a first c second) J) b
      → IsFirstPair (IsSoPair pairs J) a b
  pair_first a lead first at b other = record {
    so = (first, at, other.so);
    least = λ c d pair before. elim before [
      | inl earlier ↦ lead.least c (pair.0, pair.1, (d, pair.2)) earlier
      | inr same ↦ other.least d (beside c d pair same.0) same.1
    ];
  }
    where
      beside : (c d : Named) (pair : IsSoPair pairs J c d) → c ≡ a → IsSo (λ e second. pairs a first e second) J d
      beside c d pair same =
          let one : pair.0 ≡ first = same_Some pair.0 first (sym pair.1 ∙ (ap (record_at J) same ∙ at)) in
          subst (λ (z : Named). IsSo (λ e second. pairs z first e second) J d) same
          (subst (λ (r : Record). IsSo (λ e second. pairs c r e second) J d) one pair.2)

  -- of a pair the first is asked beside the other
  pub pair_asked : ((a : Named) → ¬ IsSo (λ c first. IsSoBeside pairs J c first) J a) → (a b : Named) → ¬ IsSoPair pairs J a b
  pair_asked none a b pair = none a (pair.0, pair.1, (b, pair.2))

  -- a record that is of a pair has another one beside it
  pub has_beside : (a : Named) → IsSo (λ c first. IsSoBeside pairs J c first) J a → (first : Record)
      → record_at J a ≡ Some first → ((b : Named) → ¬ IsSo (λ c second. pairs a first c second) J b) → ⊥
  has_beside a so first at none =
      let one : so.0 ≡ first = same_Some so.0 first (sym so.1 ∙ at) in
      none so.2.0 (subst (λ (r : Record). IsSo (λ c second. pairs a r c second) J so.2.0) one so.2.1)

-- a record of each of two
pub has_record : (J : Journals) (holds : Named → Record → Type 0) (a : Named) → IsSo holds J a → record_at J a ≡ None → ⊥
has_record J holds a so none = (let e : ◌≡◌ {A = Option Record} None (Some so.0) = sym none ∙ so.1 in cc)

-- where there is none, what is so then is so
pub none_of : {X : Type 0} {P : Type 0} (o : Option X) → ((x : X) → o ≢ Some x) → IfNone o P → P
none_of None other p = p
none_of (Some x) other p = absurd (other x refl)
