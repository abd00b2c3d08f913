-- A site's items once more: a record's item stands before all that is behind the record, no item stands twice, and what
-- stands before an item commits just what the records before its place commit.
use Rattle.std.proofs.Common.{◌≡◌, ◌≢◌, ◌+◌, ◌-◌, ◌<◌, ◌≤◌, ◌⊎◌, ℕ, zero, suc, List, [], ◌∷◌, ◌++◌, length, take, slice_get, Some, None, refl, ap, sym, ◌∙◌, subst, arith, inl, inr, if◌then◌else◌, true, false}
use Rattle.std.specs.Prelude.{Option, Bool, Contains, flat_map, filter_map}
use Rattle.std.specs.List.{range_with_len, cons_option}
use Rattle.std.proofs.lemmas.List.{append-nil}
use Rattle.std.proofs.lemmas.List.Elements.{Contains-append_left, Contains-append_right, Contains-append_cases}
use Rattle.std.proofs.lemmas.Grind.{flat_map-append}
use Rattle.walter_base.specs.declared.catalog.Catalog.{Catalog}
use Rattle.walter_base.specs.declared.message.Record.{Record}
use Rattle.walter_base.specs.declared.message.Record.TheVariants.{Boot, Own, Got, Seen, Prepared, Released, SlowBegin, SlowEnd, Marks, Format as FormatRecord}
use Rattle.walter_base.specs.declared.names.SiteId.{SiteId}
use Rattle.walter_base.specs.declared.names.Tid.{Tid}
use Rattle.walter_base.specs.declared.transaction.Tx.{Tx}
use Rattle.walter_psi.proofs.Lists.{Contains-nil}
use Rattle.walter_rules.proofs.Membership.{in_cases, later_in, first_in}
use Rattle.walter_audit.specs.Journals.{Journals, own_at}
pub use Rattle.walter_audit.specs.Journals.{named_by, record_tids}
use Rattle.walter_audit.specs.Orders.{Item, Starts, Commits, Arrives, place_of, is_shortest, start_behind, item_of, items_behind, items}
use Rattle.walter_audit.proofs.Items.{started_at, of_record, IsOfRecord, behind_at, from_low}

-- the second item may stand behind the first
abbrev pub IsAfter : Item → Item → Type 0
IsAfter (Starts p tx) y = p ≤ place_of y
IsAfter (Commits p seq tx) y = p < place_of y
IsAfter (Arrives p j seq) y = p < place_of y

abbrev pub AreSorted : List Item → Type 0
AreSorted [] = Unit {0}
AreSorted (x ∷ xs) = ((y : Item) → Contains xs y → IsAfter x y) × AreSorted xs

above : (x y : Item) → place_of x < place_of y → IsAfter x y
above (Starts p tx) y l = omega (arith, l)
above (Commits p seq tx) y l = l
above (Arrives p j seq) y l = l

sorted-append : (xs ys : List Item) → AreSorted xs → AreSorted ys
    → ((x y : Item) → Contains xs x → Contains ys y → IsAfter x y) → AreSorted (xs ++ ys)
sorted-append [] ys a b cross = b
sorted-append (x ∷ xs) ys a b cross = (
  λ y c. elim (Contains-append_cases xs ys y c) [
    | inl here ↦ a.0 y here
    | inr there ↦ cross x y (first_in x xs) there
  ],
  sorted-append xs ys a.1 b (λ w y c d. cross w y (later_in x xs w c) d),
)

-- where a list is cut, what is before the cut stands before what is behind it
pub sorted_cut : (xs ys : List Item) → AreSorted (xs ++ ys) → (x y : Item) → Contains xs x → Contains ys y → IsAfter x y
sorted_cut [] ys s x y c d = absurd (Contains-nil x c)
sorted_cut (w ∷ xs) ys s x y c d = elim (in_cases w xs x c) [
  | inl here ↦ subst (λ z. IsAfter z y) here (s.0 y (Contains-append_right xs ys y d))
  | inr there ↦ sorted_cut xs ys s.1 x y there d
]

-- starts alone
abbrev pub AreStarts : ℕ → List Item → Type 0
AreStarts p xs = (x : Item) → Contains xs x → (tx : Tx) × (x ≡ Starts p tx)

starts_sorted : (p : ℕ) (xs : List Item) → AreStarts p xs → AreSorted xs
starts_sorted p [] are = tt
starts_sorted p (x ∷ xs) are = (
  λ y c.
      let a = are x (first_in x xs) in
      let b = are y (later_in x xs y c) in
      let e : place_of y ≡ p = ap place_of b.1 in
      subst (λ z. IsAfter z y) (sym a.1) (omega (arith, e)),
  starts_sorted p xs (λ y c. are y (later_in x xs y c)),
)

item_sorted : (p : ℕ) (o : Option Record) → AreSorted (item_of p o)
item_sorted p None = tt
item_sorted p (Some (Own seq tx)) = (λ y c. absurd (Contains-nil y c), tt)
item_sorted p (Some (Seen j seq)) = (λ y c. absurd (Contains-nil y c), tt)
item_sorted p (Some (Boot epoch)) = tt
item_sorted p (Some (Got j seq tx)) = tt
item_sorted p (Some (Prepared j n tid objects)) = tt
item_sorted p (Some (Released j n)) = tt
item_sorted p (Some (SlowBegin n tx)) = tt
item_sorted p (Some (SlowEnd n)) = tt
item_sorted p (Some (Marks durable visible)) = tt
item_sorted p (Some FormatRecord) = tt

-- no item stands twice
abbrev pub AreApart : List Item → Type 0
AreApart [] = Unit {0}
AreApart (x ∷ xs) = ¬ Contains xs x × AreApart xs

apart-append : (xs ys : List Item) → AreApart xs → AreApart ys → ((x : Item) → Contains xs x → ¬ Contains ys x)
    → AreApart (xs ++ ys)
apart-append [] ys a b cross = b
apart-append (x ∷ xs) ys a b cross = (
  λ c. elim (Contains-append_cases xs ys x c) [ inl here ↦ a.0 here | inr there ↦ cross x (first_in x xs) there ],
  apart-append xs ys a.1 b (λ w c. cross w (later_in x xs w c)),
)

pub apart_cut : (xs ys : List Item) → AreApart (xs ++ ys) → (x : Item) → Contains xs x → ¬ Contains ys x
apart_cut [] ys a x c d = Contains-nil x c
apart_cut (w ∷ xs) ys a x c d = elim (in_cases w xs x c) [
  | inl here ↦ a.0 (subst (λ z. Contains (xs ++ ys) z) (sym here) (Contains-append_right xs ys x d))
  | inr there ↦ apart_cut xs ys a.1 x there d
]

item_apart : (p : ℕ) (o : Option Record) → AreApart (item_of p o)
item_apart p None = tt
item_apart p (Some (Own seq tx)) = (λ c. Contains-nil (Commits p seq tx) c, tt)
item_apart p (Some (Seen j seq)) = (λ c. Contains-nil (Arrives p j seq) c, tt)
item_apart p (Some (Boot epoch)) = tt
item_apart p (Some (Got j seq tx)) = tt
item_apart p (Some (Prepared j n tid objects)) = tt
item_apart p (Some (Released j n)) = tt
item_apart p (Some (SlowBegin n tx)) = tt
item_apart p (Some (SlowEnd n)) = tt
item_apart p (Some (Marks durable visible)) = tt
item_apart p (Some FormatRecord) = tt

-- the own commits of these records are of different transactions
abbrev pub OwnsApart : List Record → Type 0
OwnsApart [] = Unit {0}
OwnsApart (Own seq tx ∷ records) = ((m : ℕ) (y : Tx) → Contains records (Own m y) → y.tid ≢ tx.tid) × OwnsApart records
OwnsApart (rec ∷ records) = OwnsApart records

starts_apart_own : (catalog : Catalog) (i : SiteId) (all : List Record) (p seq : ℕ) (tx : Tx) (records : List Record)
    (b : Bool) → ((m : ℕ) (y : Tx) → Contains records (Own m y) → y.tid ≢ tx.tid)
    → AreApart (filter_map (start_behind catalog i all p) records)
    → AreApart (cons_option (if b then Some (Starts p tx) else None) (filter_map (start_behind catalog i all p) records))
starts_apart_own catalog i all p seq tx records true others rest = (
  λ c.
      let s = started_at catalog i all p records (Starts p tx) c in
      let e : tx ≡ s.1 = (let f : Starts p tx ≡ Starts p s.1 = s.4 in cc) in
      others s.0 s.1 s.2 (ap (λ (z : Tx). z.tid) (sym e)),
  rest,
)
starts_apart_own catalog i all p seq tx records false others rest = rest

starts_apart : (catalog : Catalog) (i : SiteId) (all : List Record) (p : ℕ) (records : List Record) → OwnsApart records
    → AreApart (filter_map (start_behind catalog i all p) records)
starts_apart catalog i all p [] o = tt
starts_apart catalog i all p (Own seq tx ∷ records) o =
    starts_apart_own catalog i all p seq tx records (is_shortest catalog i all tx.start p) o.0
    (starts_apart catalog i all p records o.1)
starts_apart catalog i all p (Boot epoch ∷ records) o = starts_apart catalog i all p records o
starts_apart catalog i all p (Got j seq tx ∷ records) o = starts_apart catalog i all p records o
starts_apart catalog i all p (Seen j seq ∷ records) o = starts_apart catalog i all p records o
starts_apart catalog i all p (Prepared j n tid objects ∷ records) o = starts_apart catalog i all p records o
starts_apart catalog i all p (Released j n ∷ records) o = starts_apart catalog i all p records o
starts_apart catalog i all p (SlowBegin n tx ∷ records) o = starts_apart catalog i all p records o
starts_apart catalog i all p (SlowEnd n ∷ records) o = starts_apart catalog i all p records o
starts_apart catalog i all p (Marks durable visible ∷ records) o = starts_apart catalog i all p records o
starts_apart catalog i all p (FormatRecord ∷ records) o = starts_apart catalog i all p records o

module _ (catalog : Catalog) (i : SiteId) (records : List Record) where
  starts_are : (p : ℕ) → AreStarts p (filter_map (start_behind catalog i records p) records)
  starts_are p x c = let s = started_at catalog i records p records x c in (s.1, s.4)

  not_both : (p : ℕ) (x : Item) → Contains (filter_map (start_behind catalog i records p) records) x
      → ¬ Contains (item_of p (slice_get records p)) x
  not_both p x c d =
      let s = starts_are p x c in
      (subst (λ z. IsOfRecord (slice_get records p) z) s.1 (of_record p (slice_get records p) x d).0)

  behind_sorted : (p : ℕ) → AreSorted (items_behind catalog i records p)
  behind_sorted p = sorted-append (filter_map (start_behind catalog i records p) records) (item_of p (slice_get records p))
      (starts_sorted p (filter_map (start_behind catalog i records p) records) (starts_are p))
      (item_sorted p (slice_get records p))
      (λ x y c d.
      let s = starts_are p x c in
      let e = (of_record p (slice_get records p) y d).1 in
      subst (λ z. IsAfter z y) (sym s.1) (omega (arith, e)))

  sorted_from : (a n : ℕ) → AreSorted (flat_map (items_behind catalog i records) (range_with_len a n))
  sorted_from a zero = tt
  sorted_from a (suc n) = sorted-append (items_behind catalog i records a)
      (flat_map (items_behind catalog i records) (range_with_len (a + 1) n)) (behind_sorted a) (sorted_from (a + 1) n)
      (λ x y c d.
      let e = behind_at catalog i records a x c in
      let l = from_low catalog i records (a + 1) n y d in
      above x y (omega (arith, e, l)))

  pub items_sorted : AreSorted (items catalog i records)
  items_sorted = sorted_from 0 (length records + 1)

  apart_from : OwnsApart records → (a n : ℕ) → AreApart (flat_map (items_behind catalog i records) (range_with_len a n))
  apart_from o a zero = tt
  apart_from o a (suc n) = apart-append (items_behind catalog i records a)
      (flat_map (items_behind catalog i records) (range_with_len (a + 1) n))
      (apart-append (filter_map (start_behind catalog i records a) records) (item_of a (slice_get records a))
      (starts_apart catalog i records a records o) (item_apart a (slice_get records a)) (not_both a))
      (apart_from o (a + 1) n)
      (λ x c d.
      let e = behind_at catalog i records a x c in
      let l = from_low catalog i records (a + 1) n x d in
      absurd (omega (arith, e, l)))

  pub items_apart : OwnsApart records → AreApart (items catalog i records)
  items_apart o = apart_from o 0 (length records + 1)

-- the transaction that an item commits at its site
abbrev pub item_tids : Journals → Item → List Tid
item_tids journals (Starts p tx) = []
item_tids journals (Commits p seq tx) = tx.tid ∷ []
item_tids journals (Arrives p j seq) = named_by (own_at journals j seq)

-- a list that is cut at an element, where it is made of two
pub cut : {X : Type 0} (xs ys front rest : List X) (x : X) → xs ++ ys ≡ front ++ x ∷ rest
    → ((more : List X) × (xs ≡ front ++ x ∷ more)) ⊎ ((front2 : List X) × (front ≡ xs ++ front2) × (ys ≡ front2 ++ x ∷ rest))
cut [] ys front rest x e = inr (front, refl, e)
cut (w ∷ xs) ys [] rest x e = inl (xs, let f : w ≡ x = cc in ap (λ z. z ∷ xs) f)
cut {X} (w ∷ xs) ys (v ∷ front) rest x e =
    let first : w ≡ v = cc in
    let others : xs ++ ys ≡ front ++ x ∷ rest = cc in
    elim (cut xs ys front rest x others) [
      | inl here ↦ inl (here.0, (λ t. first t ∷ here.1 t))
      | inr there ↦ inr (there.0, (λ t. sym first t ∷ there.1 t), there.2)
    ]

no_tids : (journals : Journals) (p : ℕ) (xs : List Item) → AreStarts p xs → flat_map (item_tids journals) xs ≡ []
no_tids journals p [] are = refl
no_tids journals p (x ∷ xs) are =
    let s = are x (first_in x xs) in
    ap (λ z. item_tids journals z ++ flat_map (item_tids journals) xs) s.1
    ∙ no_tids journals p xs (λ y c. are y (later_in x xs y c))

item_tids_of : (journals : Journals) (p : ℕ) (rec : Record)
    → flat_map (item_tids journals) (item_of p (Some rec)) ≡ record_tids journals rec
item_tids_of journals p (Own seq tx) = refl
item_tids_of journals p (Seen j seq) = append-nil (named_by (own_at journals j seq))
item_tids_of journals p (Boot epoch) = refl
item_tids_of journals p (Got j seq tx) = refl
item_tids_of journals p (Prepared j n tid objects) = refl
item_tids_of journals p (Released j n) = refl
item_tids_of journals p (SlowBegin n tx) = refl
item_tids_of journals p (SlowEnd n) = refl
item_tids_of journals p (Marks durable visible) = refl
item_tids_of journals p FormatRecord = refl

-- a record's item alone has nothing before it
first_item : (p : ℕ) (o : Option Record) (front rest : List Item) (x : Item) → item_of p o ≡ front ++ x ∷ rest → front ≡ []
first_item p o [] rest x e = refl
first_item p None (y ∷ front) rest x e = absurd cc
first_item p (Some (Own seq tx)) (y ∷ front) rest x e = absurd (two front (let f : [] ≡ front ++ x ∷ rest = cc in f))
  where
    two : (front : List Item) → [] ≡ front ++ x ∷ rest → ⊥
    two [] e = cc
    two (z ∷ front) e = cc
first_item p (Some (Seen j seq)) (y ∷ front) rest x e = absurd (two front (let f : [] ≡ front ++ x ∷ rest = cc in f))
  where
    two : (front : List Item) → [] ≡ front ++ x ∷ rest → ⊥
    two [] e = cc
    two (z ∷ front) e = cc
first_item p (Some (Boot epoch)) (y ∷ front) rest x e = absurd cc
first_item p (Some (Got j seq tx)) (y ∷ front) rest x e = absurd cc
first_item p (Some (Prepared j n tid objects)) (y ∷ front) rest x e = absurd cc
first_item p (Some (Released j n)) (y ∷ front) rest x e = absurd cc
first_item p (Some (SlowBegin n tx)) (y ∷ front) rest x e = absurd cc
first_item p (Some (SlowEnd n)) (y ∷ front) rest x e = absurd cc
first_item p (Some (Marks durable visible)) (y ∷ front) rest x e = absurd cc
first_item p (Some FormatRecord) (y ∷ front) rest x e = absurd cc

module _ (catalog : Catalog) (i : SiteId) (journals : Journals) (records : List Record) where
  -- what stands before an item behind a front commits nothing
  before_in : (p : ℕ) (front rest : List Item) (x : Item) → items_behind catalog i records p ≡ front ++ x ∷ rest
      → flat_map (item_tids journals) front ≡ []
  before_in p front rest x e = elim (cut (filter_map (start_behind catalog i records p) records)
      (item_of p (slice_get records p)) front rest x e) [
        | inl here ↦ no_tids journals p front (λ y c. starts_are catalog i records p y
            (subst (λ zs. Contains zs y) (sym here.1) (Contains-append_left front (x ∷ here.0) y c)))
        | inr there ↦
            let none = first_item p (slice_get records p) there.0 rest x there.2 in
            let is : front ≡ filter_map (start_behind catalog i records p) records = there.1
            ∙ (ap (λ t. filter_map (start_behind catalog i records p) records ++ t) none
            ∙ append-nil (filter_map (start_behind catalog i records p) records)) in
            ap (λ t. flat_map (item_tids journals) t) is
            ∙ no_tids journals p (filter_map (start_behind catalog i records p) records) (starts_are catalog i records p)
      ]

  all_behind : (p : ℕ) (rec : Record) → slice_get records p ≡ Some rec
      → flat_map (item_tids journals) (items_behind catalog i records p) ≡ record_tids journals rec
  all_behind p rec at =
      flat_map-append (item_tids journals) (filter_map (start_behind catalog i records p) records) (item_of p (slice_get records p))
      ∙ (ap (λ t. t ++ flat_map (item_tids journals) (item_of p (slice_get records p)))
      (no_tids journals p (filter_map (start_behind catalog i records p) records) (starts_are catalog i records p))
      ∙ (ap (λ o. flat_map (item_tids journals) (item_of p o)) at ∙ item_tids_of journals p rec))

  -- and what stands before an item commits what the records before its place do
  before_from : (a n : ℕ) (left : List Record) → ((k : ℕ) → slice_get records (a + k) ≡ slice_get left k)
      → n ≡ length left + 1 → (front rest : List Item) (x : Item) (q : ℕ)
      → flat_map (items_behind catalog i records) (range_with_len a n) ≡ front ++ x ∷ rest → place_of x ≡ a + q
      → flat_map (item_tids journals) front ≡ flat_map (record_tids journals) (take q left)
  before_from a zero left same size front rest x q e at = absurd (omega (arith, size))
  before_from a (suc n) [] same size front rest x q e at =
      elim (cut (items_behind catalog i records a) (flat_map (items_behind catalog i records) (range_with_len (a + 1) n))
      front rest x e) [
        | inl here ↦
            let place = behind_at catalog i records a x (subst (λ zs. Contains zs x) (sym here.1)
            (Contains-append_right front (x ∷ here.0) x (first_in x here.0))) in
            let none : q ≡ 0 = omega (arith, at, place) in
            before_in a front here.0 x here.1 ∙ sym (ap (λ m. flat_map (record_tids journals) (take m [])) none)
        | inr there ↦
            let none : n ≡ 0 = omega (arith, size) in
            let empty : [] ≡ there.0 ++ x ∷ rest = sym (ap (λ m. flat_map (items_behind catalog i records) (range_with_len (a + 1) m)) none)
            ∙ there.2 in
            absurd (Contains-nil x (subst (λ zs. Contains zs x) (sym empty) (Contains-append_right there.0 (x ∷ rest) x (first_in x rest))))
      ]
  before_from a (suc n) (rec ∷ left) same size front rest x q e at =
      elim (cut (items_behind catalog i records a) (flat_map (items_behind catalog i records) (range_with_len (a + 1) n))
      front rest x e) [
        | inl here ↦
            let place = behind_at catalog i records a x (subst (λ zs. Contains zs x) (sym here.1)
            (Contains-append_right front (x ∷ here.0) x (first_in x here.0))) in
            let none : q ≡ 0 = omega (arith, at, place) in
            before_in a front here.0 x here.1 ∙ sym (ap (λ m. flat_map (record_tids journals) (take m (rec ∷ left))) none)
        | inr there ↦
            let low = from_low catalog i records (a + 1) n x (subst (λ zs. Contains zs x) (sym there.2)
            (Contains-append_right there.0 (x ∷ rest) x (first_in x rest))) in
            let more : q ≡ suc (q - 1) = omega (arith, at, low) in
            let here : slice_get records a ≡ Some rec = ap (λ k. slice_get records k) (omega arith) ∙ same 0 in
            let further = before_from (a + 1) n left
            (λ k. ap (λ m. slice_get records m) (omega arith) ∙ same (suc k)) (omega (arith, size)) there.0 rest x (q - 1) there.2
            (omega (arith, at, more)) in
            ap (λ t. flat_map (item_tids journals) t) there.1
            ∙ (flat_map-append (item_tids journals) (items_behind catalog i records a) there.0
            ∙ ((λ t. all_behind a rec here t ++ further t)
            ∙ sym (ap (λ m. flat_map (record_tids journals) (take m (rec ∷ left))) more)))
      ]

  pub before_item : (front rest : List Item) (x : Item) → items catalog i records ≡ front ++ x ∷ rest
      → flat_map (item_tids journals) front ≡ flat_map (record_tids journals) (take (place_of x) records)
  before_item front rest x e = before_from 0 (length records + 1) records (λ k. ap (λ m. slice_get records m) (omega arith)) refl
      front rest x (place_of x) e (omega arith)

  -- all items commit what all records do
  all_from : (a n : ℕ) (left : List Record) → ((k : ℕ) → slice_get records (a + k) ≡ slice_get left k)
      → n ≡ length left + 1
      → flat_map (item_tids journals) (flat_map (items_behind catalog i records) (range_with_len a n))
      ≡ flat_map (record_tids journals) left
  all_from a zero left same size = absurd (omega (arith, size))
  all_from a (suc n) [] same size =
      let none : n ≡ 0 = omega (arith, size) in
      let past : slice_get records a ≡ None = ap (λ k. slice_get records k) (omega arith) ∙ same 0 in
      let starts = filter_map (start_behind catalog i records a) records in
      let alone : flat_map (item_tids journals) (items_behind catalog i records a) ≡ [] =
      flat_map-append (item_tids journals) starts (item_of a (slice_get records a))
      ∙ (ap (λ t. t ++ flat_map (item_tids journals) (item_of a (slice_get records a)))
      (no_tids journals a starts (starts_are catalog i records a))
      ∙ ap (λ o. flat_map (item_tids journals) (item_of a o)) past) in
      flat_map-append (item_tids journals) (items_behind catalog i records a)
      (flat_map (items_behind catalog i records) (range_with_len (a + 1) n))
      ∙ (ap (λ t. t ++ flat_map (item_tids journals) (flat_map (items_behind catalog i records) (range_with_len (a + 1) n))) alone
      ∙ ap (λ m. flat_map (item_tids journals) (flat_map (items_behind catalog i records) (range_with_len (a + 1) m))) none)
  all_from a (suc n) (rec ∷ left) same size =
      let here : slice_get records a ≡ Some rec = ap (λ k. slice_get records k) (omega arith) ∙ same 0 in
      let further = all_from (a + 1) n left (λ k. ap (λ m. slice_get records m) (omega arith) ∙ same (suc k)) (omega (arith, size)) in
      flat_map-append (item_tids journals) (items_behind catalog i records a)
      (flat_map (items_behind catalog i records) (range_with_len (a + 1) n))
      ∙ (λ t. all_behind a rec here t ++ further t)

  pub all_items : flat_map (item_tids journals) (items catalog i records) ≡ flat_map (record_tids journals) records
  all_items = all_from 0 (length records + 1) records (λ k. ap (λ m. slice_get records m) (omega arith)) refl
