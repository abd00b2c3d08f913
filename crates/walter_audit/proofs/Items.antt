-- A site's items: they stand in the order of their places, and those of records are just its own commits and what it
-- sees. And what was taken of them, with what is left.
use Rattle.std.proofs.Common.{◌≡◌, ◌+◌, ◌≤◌, ◌⊎◌, ℕ, zero, suc, List, [], ◌∷◌, ◌++◌, length, slice_get, Some, None, refl, ap, sym, subst, arith, inl, inr, if◌then◌else◌, true, false}
use Rattle.std.specs.Prelude.{Option, Bool, Contains, flat_map, filter_map}
use Rattle.std.specs.List.{range_with_len, cons_option}
use Rattle.std.proofs.lemmas.Option.{slice_get_within}
use Rattle.std.proofs.lemmas.List.Elements.{Contains-append_left, Contains-append_right, Contains-append_cases}
use Rattle.walter_base.specs.declared.catalog.Catalog.{Catalog}
use Rattle.walter_base.specs.declared.message.Record.{Record}
use Rattle.walter_base.specs.declared.message.Record.TheVariants.{Boot, Own, Got, Seen, Prepared, Released, SlowBegin, SlowEnd, Marks, Format as FormatRecord}
use Rattle.walter_base.specs.declared.names.SiteId.{SiteId}
use Rattle.walter_base.specs.declared.transaction.Tx.{Tx}
use Rattle.walter_psi.proofs.Lists.{Contains-nil, Contains-one, Contains-flat_map, Contains-flat_map_from, contains_at}
use Rattle.walter_rules.proofs.Membership.{in_cases, later_in, first_in, in_range}
use Rattle.walter_agreement.proofs.Cases.{site_cases}
use Rattle.walter_audit.specs.Orders.{Item, Starts, Commits, Arrives, place_of, is_shortest, start_behind, item_of, items_behind, items, Taken, AreTaken, none_taken, takes}

-- items whose places don't fall
abbrev pub IsInOrder : List Item → Type 0
IsInOrder [] = Unit {0}
IsInOrder (x ∷ xs) = ((y : Item) → Contains xs y → place_of x ≤ place_of y) × IsInOrder xs

in_order-append : (xs ys : List Item) → IsInOrder xs → IsInOrder ys
    → ((x y : Item) → Contains xs x → Contains ys y → place_of x ≤ place_of y) → IsInOrder (xs ++ ys)
in_order-append [] ys a b cross = b
in_order-append (x ∷ xs) ys a b cross = (
  λ y c. elim (Contains-append_cases xs ys y c) [
    | inl here ↦ a.0 y here
    | inr there ↦ cross x y (first_in x xs) there
  ],
  in_order-append xs ys a.1 b (λ w y c d. cross w y (later_in x xs w c) d),
)

all_at : (xs : List Item) (p : ℕ) → ((x : Item) → Contains xs x → place_of x ≡ p) → IsInOrder xs
all_at [] p is = tt
all_at (x ∷ xs) p is = (
  λ y c. let a = is x (first_in x xs) in let b = is y (later_in x xs y c) in omega (arith, a, b),
  all_at xs p (λ y c. is y (later_in x xs y c)),
)

-- the starts behind a front stand there
abbrev pub IsStartOf : Catalog → SiteId → List Record → ℕ → List Record → Item → Type 0
IsStartOf catalog i all p records x = (seq : ℕ) × (tx : Tx) × Contains records (Own seq tx)
    × (is_shortest catalog i all tx.start p ≡ true) × (x ≡ Starts p tx)

start_later : (catalog : Catalog) (i : SiteId) (all : List Record) (p : ℕ) (rec : Record) (records : List Record)
    (x : Item) → IsStartOf catalog i all p records x → IsStartOf catalog i all p (rec ∷ records) x
start_later catalog i all p rec records x r = (r.0, r.1, later_in rec records (Own r.0 r.1) r.2, r.3, r.4)

start_own : (catalog : Catalog) (i : SiteId) (all : List Record) (p seq : ℕ) (tx : Tx) (records : List Record)
    (x : Item) (b : Bool) → is_shortest catalog i all tx.start p ≡ b
    → (Contains (filter_map (start_behind catalog i all p) records) x → IsStartOf catalog i all p records x)
    → Contains (cons_option (if b then Some (Starts p tx) else None) (filter_map (start_behind catalog i all p) records)) x
    → IsStartOf catalog i all p (Own seq tx ∷ records) x
start_own catalog i all p seq tx records x true is rest there =
    elim (in_cases (Starts p tx) (filter_map (start_behind catalog i all p) records) x there) [
      | inl here ↦ (seq, tx, first_in (Own seq tx) records, is, sym here)
      | inr others ↦ start_later catalog i all p (Own seq tx) records x (rest others)
    ]
start_own catalog i all p seq tx records x false is rest there =
    start_later catalog i all p (Own seq tx) records x (rest there)

pub started_at : (catalog : Catalog) (i : SiteId) (all : List Record) (p : ℕ) (records : List Record) (x : Item)
    → Contains (filter_map (start_behind catalog i all p) records) x → IsStartOf catalog i all p records x
started_at catalog i all p [] x c = absurd (Contains-nil x c)
started_at catalog i all p (Own seq tx ∷ records) x c =
    start_own catalog i all p seq tx records x (is_shortest catalog i all tx.start p) refl
    (started_at catalog i all p records x) c
started_at catalog i all p (Boot epoch ∷ records) x c = start_later catalog i all p (Boot epoch) records x
    (started_at catalog i all p records x c)
started_at catalog i all p (Got j seq tx ∷ records) x c = start_later catalog i all p (Got j seq tx) records x
    (started_at catalog i all p records x c)
started_at catalog i all p (Seen j seq ∷ records) x c = start_later catalog i all p (Seen j seq) records x
    (started_at catalog i all p records x c)
started_at catalog i all p (Prepared j n tid objects ∷ records) x c = start_later catalog i all p
    (Prepared j n tid objects) records x (started_at catalog i all p records x c)
started_at catalog i all p (Released j n ∷ records) x c = start_later catalog i all p (Released j n) records x
    (started_at catalog i all p records x c)
started_at catalog i all p (SlowBegin n tx ∷ records) x c = start_later catalog i all p (SlowBegin n tx) records x
    (started_at catalog i all p records x c)
started_at catalog i all p (SlowEnd n ∷ records) x c = start_later catalog i all p (SlowEnd n) records x
    (started_at catalog i all p records x c)
started_at catalog i all p (Marks durable visible ∷ records) x c = start_later catalog i all p
    (Marks durable visible) records x (started_at catalog i all p records x c)
started_at catalog i all p (FormatRecord ∷ records) x c = start_later catalog i all p
    FormatRecord records x (started_at catalog i all p records x c)

-- an item is of the record at its place
abbrev pub IsOfRecord : Option Record → Item → Type 0
IsOfRecord o (Starts place tx) = ⊥
IsOfRecord o (Commits place seq tx) = o ≡ Some (Own seq tx)
IsOfRecord o (Arrives place j seq) = o ≡ Some (Seen j seq)

pub of_record : (p : ℕ) (o : Option Record) (x : Item) → Contains (item_of p o) x → IsOfRecord o x × (place_of x ≡ p)
of_record p None x c = absurd (Contains-nil x c)
of_record p (Some (Own seq tx)) x c =
    subst (λ z. IsOfRecord (Some (Own seq tx)) z × (place_of z ≡ p)) (Contains-one (Commits p seq tx) x c) (refl, refl)
of_record p (Some (Seen j seq)) x c =
    subst (λ z. IsOfRecord (Some (Seen j seq)) z × (place_of z ≡ p)) (Contains-one (Arrives p j seq) x c) (refl, refl)
of_record p (Some (Boot epoch)) x c = absurd (Contains-nil x c)
of_record p (Some (Got j seq tx)) x c = absurd (Contains-nil x c)
of_record p (Some (Prepared j n tid objects)) x c = absurd (Contains-nil x c)
of_record p (Some (Released j n)) x c = absurd (Contains-nil x c)
of_record p (Some (SlowBegin n tx)) x c = absurd (Contains-nil x c)
of_record p (Some (SlowEnd n)) x c = absurd (Contains-nil x c)
of_record p (Some (Marks durable visible)) x c = absurd (Contains-nil x c)
of_record p (Some FormatRecord) x c = absurd (Contains-nil x c)

module _ (catalog : Catalog) (i : SiteId) (records : List Record) where
  pub behind_at : (p : ℕ) (x : Item) → Contains (items_behind catalog i records p) x → place_of x ≡ p
  behind_at p x c = elim (Contains-append_cases (filter_map (start_behind catalog i records p) records)
      (item_of p (slice_get records p)) x c) [
        | inl start ↦ ap place_of (started_at catalog i records p records x start).4
        | inr here ↦ (of_record p (slice_get records p) x here).1
      ]

  pub from_low : (a n : ℕ) (x : Item) → Contains (flat_map (items_behind catalog i records) (range_with_len a n)) x
      → a ≤ place_of x
  from_low a zero x c = absurd (Contains-nil x c)
  from_low a (suc n) x c = elim (Contains-append_cases (items_behind catalog i records a)
      (flat_map (items_behind catalog i records) (range_with_len (a + 1) n)) x c) [
        | inl here ↦ let e = behind_at a x here in omega (arith, e)
        | inr there ↦ let l = from_low (a + 1) n x there in omega (arith, l)
      ]

  in_order_from : (a n : ℕ) → IsInOrder (flat_map (items_behind catalog i records) (range_with_len a n))
  in_order_from a zero = tt
  in_order_from a (suc n) = in_order-append (items_behind catalog i records a)
      (flat_map (items_behind catalog i records) (range_with_len (a + 1) n))
      (all_at (items_behind catalog i records a) a (behind_at a)) (in_order_from (a + 1) n)
      (λ x y c d. let e = behind_at a x c in let l = from_low (a + 1) n y d in omega (arith, e, l))

  -- the items stand in order
  pub items_in_order : IsInOrder (items catalog i records)
  items_in_order = in_order_from 0 (length records + 1)

  -- one that is no start is of the record at its place
  pub item_recorded : (x : Item) → Contains (items catalog i records) x
      → IsOfRecord (slice_get records (place_of x)) x
      ⊎ ((p seq : ℕ) × (tx : Tx) × Contains records (Own seq tx) × (is_shortest catalog i records tx.start p ≡ true)
      × (x ≡ Starts p tx))
  item_recorded x c =
      let from = Contains-flat_map_from (items_behind catalog i records) (range_with_len 0 (length records + 1)) x c in
      elim (Contains-append_cases (filter_map (start_behind catalog i records from.0) records)
      (item_of from.0 (slice_get records from.0)) x from.2) [
        | inl start ↦ let s = started_at catalog i records from.0 records x start in inr (from.0, s.0, s.1, s.2, s.3, s.4)
        | inr here ↦
            let o = of_record from.0 (slice_get records from.0) x here in
            inl (subst (λ p. IsOfRecord (slice_get records p) x) (sym o.1) o.0)
      ]

  pub arrival_recorded : (p : ℕ) (j : SiteId) (seq : ℕ) → Contains (items catalog i records) (Arrives p j seq)
      → slice_get records p ≡ Some (Seen j seq)
  arrival_recorded p j seq c = elim (item_recorded (Arrives p j seq) c) [
    | inl of ↦ of
    | inr start ↦ absurd (let e : Arrives p j seq ≡ Starts start.0 start.2 = start.5 in cc)
  ]

  -- and each own commit has its item
  pub commit_item : (p seq : ℕ) (tx : Tx) → slice_get records p ≡ Some (Own seq tx)
      → Contains (items catalog i records) (Commits p seq tx)
  commit_item p seq tx at =
      let low = slice_get_within records p (Own seq tx) at in
      Contains-flat_map (items_behind catalog i records) (range_with_len 0 (length records + 1)) p (Commits p seq tx)
      (in_range 0 (length records + 1) p (omega arith) (omega (arith, low)))
      (Contains-append_right (filter_map (start_behind catalog i records p) records) (item_of p (slice_get records p))
      (Commits p seq tx) (subst (λ o. Contains (item_of p o) (Commits p seq tx)) (sym at)
      (contains_at (Commits p seq tx ∷ []) (Commits p seq tx) 0 refl)))

  -- and each commit that is seen
  pub arrival_item : (p : ℕ) (j : SiteId) (seq : ℕ) → slice_get records p ≡ Some (Seen j seq)
      → Contains (items catalog i records) (Arrives p j seq)
  arrival_item p j seq at =
      let low = slice_get_within records p (Seen j seq) at in
      Contains-flat_map (items_behind catalog i records) (range_with_len 0 (length records + 1)) p (Arrives p j seq)
      (in_range 0 (length records + 1) p (omega arith) (omega (arith, low)))
      (Contains-append_right (filter_map (start_behind catalog i records p) records) (item_of p (slice_get records p))
      (Arrives p j seq) (subst (λ o. Contains (item_of p o) (Arrives p j seq)) (sym at)
      (contains_at (Arrives p j seq ∷ []) (Arrives p j seq) 0 refl)))

-- what is left stands in order, was among all, and what isn't left was taken
module _ (all : SiteId → List Item) (ordered : (i : SiteId) → IsInOrder (all i)) where
  pub left_in_order : (left : SiteId → List Item) (done : List Taken) → AreTaken all left done → (k : SiteId)
      → IsInOrder (left k)
  left_in_order left done (none_taken) k = ordered k
  left_in_order left2 done2 (takes left done i item rest before is go least) k = elim (site_cases i k) [
    | inl same ↦ rw same.0 (subst (λ xs. IsInOrder xs) is (left_in_order left done before i)).1
    | inr apart ↦ rw apart.0 (left_in_order left done before k)
  ]

pub left_among : (all left : SiteId → List Item) (done : List Taken) → AreTaken all left done → (k : SiteId) (x : Item)
    → Contains (left k) x → Contains (all k) x
left_among all left done (none_taken) k x c = c
left_among all left2 done2 (takes left done i item rest before is go least) k x c = elim (site_cases i k) [
  | inl same ↦
      let there : Contains rest x = rw same.0 at c in
      let was : Contains (left k) x = subst (λ j. Contains (left j) x) same.1
      (subst (λ xs. Contains xs x) (sym is) (later_in item rest x there)) in
      left_among all left done before k x was
  | inr apart ↦ left_among all left done before k x (rw apart.0 at c)
]

pub taken_or_left : (all left : SiteId → List Item) (done : List Taken) → AreTaken all left done → (k : SiteId) (x : Item)
    → Contains (all k) x → Contains done (k, x) ⊎ Contains (left k) x
taken_or_left all left done (none_taken) k x c = inr c
taken_or_left all left2 done2 (takes left done i item rest before is go least) k x c =
    elim (taken_or_left all left done before k x c) [
      | inl was ↦ inl (Contains-append_left done ((i, item) ∷ []) (k, x) was)
      | inr still ↦ elim (site_cases i k) [
        | inl same ↦
            let here : Contains (item ∷ rest) x = subst (λ xs. Contains xs x) is
            (subst (λ j. Contains (left j) x) (sym same.1) still) in
            elim (in_cases item rest x here) [
              | inl first ↦ inl (Contains-append_right done ((i, item) ∷ []) (k, x)
                  (subst (λ (t : Taken). Contains ((i, item) ∷ []) t) (λ t. (same.1 t, first t))
                  (contains_at ((i, item) ∷ []) (i, item) 0 refl)))
              | inr later ↦ inr (rw same.0 later)
            ]
        | inr apart ↦ inr (rw apart.0 still)
      ]
    ]
