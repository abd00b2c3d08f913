-- In a run no site waits for ever: of the records of its sites, in the order of the run, each that is seen stands behind
-- the own commit that it waits for. So where nobody can go on, nothing is left.
use Rattle.std.proofs.Common.{◌≡◌, ◌≢◌, ◌≤◌, ℕ, zero, suc, List, [], ◌∷◌, length, slice_get, Some, None, refl, ap, sym, ◌∙◌, subst, arith, inl, inr}
use Rattle.std.specs.Prelude.{Option, Contains}
use Rattle.std.proofs.lemmas.Bool.{cases_eq}
use Rattle.std.proofs.lemmas.Option.{slice_get_within}
use Rattle.walter_base.specs.declared.catalog.Catalog.{Catalog}
use Rattle.walter_base.specs.declared.message.Record.{Record}
use Rattle.walter_base.specs.declared.message.Record.TheVariants.{Own, Seen}
use Rattle.walter_base.specs.declared.names.SiteId.{SiteId}
use Rattle.walter_rules.specs.Layouts.{Layout}
use Rattle.walter_rules.specs.Merges.{Named as InRun}
use Rattle.walter_rules.specs.Standing.{Standing, records_after, settled, stands_after}
use Rattle.walter_psi.proofs.Lists.{Contains-nil}
use Rattle.walter_rules.proofs.Membership.{first_in, in_cases}
use Rattle.walter_agreement.proofs.Cases.{site_cases}
use Rattle.walter_agreement.proofs.Lists.{IsPrefix, prefix_refl, prefix_more, prefix_trans, prefix_get, prefix_back}
use Rattle.walter_linked.specs.Catalogs.{IsWhole}
use Rattle.walter_linked.proofs.Runs.{found_here, found_away, stands_here, stands_away}
use Rattle.walter_runs.specs.Runs.{stands, IsRun}
use Rattle.walter_audit.specs.declared.finding.Named.{Named}
use Rattle.walter_audit.specs.Orders.{Item, Starts, Commits, Arrives, place_of, items, Taken, CanGo, IsWaiting, AreTaken, items_of, IsCycle}
use Rattle.walter_audit.proofs.Held.{journals_of, seen_made}
use Rattle.walter_audit.proofs.Items.{IsInOrder, items_in_order, arrival_recorded, commit_item, left_in_order, left_among, taken_or_left}

-- records are added behind those that there are
more_records : (rec : Option Record) (records : List Record) → IsPrefix records (records_after rec records)
more_records None records = prefix_refl records
more_records (Some rec) records = prefix_more records rec

settled_more : (catalog : Catalog) (i : SiteId) (kept : Option Record) (S : Standing)
    → IsPrefix S.records (settled catalog i kept S).records
settled_more catalog i None S = prefix_refl S.records
settled_more catalog i (Some rec) S = prefix_more S.records rec

records_away : (catalog : Catalog) (older : List InRun) (n : InRun) (k : SiteId) → k ≢ n.0
    → journals_of catalog (n ∷ older) k ≡ journals_of catalog older k
records_away catalog older n k apart = ap (λ (S : Standing). S.records)
    (stands_away catalog older n k apart ∙ found_away catalog older n k apart)

pub records_grow : (catalog : Catalog) (older : List InRun) (n : InRun) (k : SiteId)
    → IsPrefix (journals_of catalog older k) (journals_of catalog (n ∷ older) k)
records_grow catalog older n k = elim (site_cases k n.0) [
  | inl same ↦
      let S : Standing = stands catalog older n.0 in
      let T : Standing = settled catalog n.0 n.1.came.kept S in
      let now : stands catalog (n ∷ older) n.0 ≡ stands_after catalog n.0 T n.1.event n.1.came = stands_here catalog older n
      ∙ ap (λ z. stands_after catalog n.0 z n.1.event n.1.came) (found_here catalog older n) in
      let grown : IsPrefix S.records (stands_after catalog n.0 T n.1.event n.1.came).records =
      prefix_trans (settled_more catalog n.0 n.1.came.kept S) (more_records n.1.came.wrote T.records) in
      subst (λ j. IsPrefix (journals_of catalog older j) (journals_of catalog (n ∷ older) j)) (sym same.1)
      (subst (λ (z : Standing). IsPrefix S.records z.records) (sym now) grown)
  | inr apart ↦ subst (λ rs. IsPrefix (journals_of catalog older k) rs) (sym (records_away catalog older n k apart.1))
      (prefix_refl (journals_of catalog older k))
]

-- the head of what is left
first_left : (xs : List Item) (x : Item) → Contains xs x → (y : Item) × (rest : List Item) × (xs ≡ y ∷ rest)
first_left [] x c = absurd (Contains-nil x c)
first_left (y ∷ rest) x c = (y, rest, refl)

low_head : (y : Item) (rest : List Item) (x : Item) → IsInOrder (y ∷ rest) → Contains (y ∷ rest) x → place_of y ≤ place_of x
low_head y rest x ordered c = elim (in_cases y rest x c) [
  | inl same ↦ let e = ap place_of same in omega (arith, e)
  | inr later ↦ ordered.0 x later
]

module _ (catalog : Catalog) (layouts : SiteId → Layout) (whole : IsWhole catalog) (run : List InRun)
    (is : IsRun catalog layouts run) (left : SiteId → List Item) (done : List Taken)
    (taken : AreTaken (items_of catalog (journals_of catalog run)) left done)
    (stuck : (k : SiteId) → IsWaiting done (left k)) where
  -- what waits is an arrival
  head_waits : (k : SiteId) (y : Item) (rest : List Item) → left k ≡ y ∷ rest
      → (p : ℕ) × (j : SiteId) × (seq : ℕ) × (y ≡ Arrives p j seq) × ¬ CanGo done (Arrives p j seq)
  head_waits k (Starts p tx) rest at = absurd ((subst (λ xs. IsWaiting done xs) at (stuck k)) tt)
  head_waits k (Commits p seq tx) rest at = absurd ((subst (λ xs. IsWaiting done xs) at (stuck k)) tt)
  head_waits k (Arrives p j seq) rest at = (p, j, seq, refl, subst (λ xs. IsWaiting done xs) at (stuck k))

  ordered : (k : SiteId) → IsInOrder (left k)
  ordered k = left_in_order (items_of catalog (journals_of catalog run))
      (λ i. items_in_order catalog i (journals_of catalog run i)) left done taken k

  -- the records of the run so far are passed, where those before them are: at a site that the next entry is of
  up_to : (older : List InRun) (n : InRun) → IsRun catalog layouts (n ∷ older)
      → ((j : SiteId) → IsPrefix (journals_of catalog (n ∷ older) j) (journals_of catalog run j))
      → ((j : SiteId) (y : Item) → Contains (left j) y → length (journals_of catalog older j) ≤ place_of y)
      → (k : SiteId) → k ≡ n.0 → (l : ℕ) → l ≤ length (journals_of catalog (n ∷ older) k)
      → (y : Item) → Contains (left k) y → l ≤ place_of y
  up_to older n run_is front before k here zero low y d = omega arith
  up_to older n run_is front before k here (suc l) low y d =
      let at_least = up_to older n run_is front before k here l (omega (arith, low)) y d in
      elim (cases_eq l (place_of y)) [
        | inr more ↦ omega (arith, at_least, more)
        | inl equal ↦
            let head = first_left (left k) y d in
            let wait = head_waits k head.0 head.1 head.2 in
            let below : place_of head.0 ≤ place_of y = low_head head.0 head.1 y
            (subst (λ xs. IsInOrder xs) head.2 (ordered k)) (subst (λ xs. Contains xs y) head.2 d) in
            let in_left : Contains (left k) head.0 = subst (λ xs. Contains xs head.0) (sym head.2)
            (first_in head.0 head.1) in
            let above = up_to older n run_is front before k here l (omega (arith, low)) head.0 in_left in
            let at : place_of head.0 ≡ wait.0 = ap place_of wait.3 in
            let place : wait.0 ≡ l = omega (arith, below, above, at, equal) in
            let item : Contains (items catalog k (journals_of catalog run k)) (Arrives wait.0 wait.1 wait.2) =
            subst (λ z. Contains (items catalog k (journals_of catalog run k)) z) wait.3
            (left_among (items_of catalog (journals_of catalog run)) left done taken k head.0 in_left) in
            let seen : slice_get (journals_of catalog run k) l ≡ Some (Seen wait.1 wait.2) =
            subst (λ p. slice_get (journals_of catalog run k) p ≡ Some (Seen wait.1 wait.2)) place
            (arrival_recorded catalog k (journals_of catalog run k) wait.0 wait.1 wait.2 item) in
            let seen_then : slice_get (journals_of catalog (n ∷ older) k) l ≡ Some (Seen wait.1 wait.2) =
            prefix_back (journals_of catalog (n ∷ older) k) (journals_of catalog run k) (Seen wait.1 wait.2) l (front k)
            (omega (arith, low)) seen in
            let made = seen_made catalog layouts whole (n ∷ older) run_is k l wait.1 wait.2 seen_then in
            let away : wait.1 ≢ n.0 = λ e. made.0 (e ∙ sym here) in
            let own : slice_get (journals_of catalog older wait.1) made.1.0 ≡ Some (Own wait.2 made.1.1) =
            subst (λ rs. slice_get rs made.1.0 ≡ Some (Own wait.2 made.1.1)) (records_away catalog older n wait.1 away)
            made.1.2 in
            let within = slice_get_within (journals_of catalog older wait.1) made.1.0 (Own wait.2 made.1.1) own in
            let there : slice_get (journals_of catalog run wait.1) made.1.0 ≡ Some (Own wait.2 made.1.1) =
            prefix_get (journals_of catalog older wait.1) (journals_of catalog run wait.1) (Own wait.2 made.1.1) made.1.0
            (prefix_trans (records_grow catalog older n wait.1) (front wait.1)) own in
            let commit = commit_item catalog wait.1 (journals_of catalog run wait.1) made.1.0 wait.2 made.1.1 there in
            elim (taken_or_left (items_of catalog (journals_of catalog run)) left done taken wait.1
            (Commits made.1.0 wait.2 made.1.1) commit) [
              | inl is_done ↦ absurd (wait.4 (made.1.0, made.1.1, is_done))
              | inr is_left ↦ absurd (let l2 = before wait.1 (Commits made.1.0 wait.2 made.1.1) is_left in
                  omega (arith, l2, within))
            ]
      ]

  passed : (older : List InRun) → IsRun catalog layouts older
      → ((k : SiteId) → IsPrefix (journals_of catalog older k) (journals_of catalog run k))
      → (k : SiteId) (x : Item) → Contains (left k) x → length (journals_of catalog older k) ≤ place_of x
  passed [] run_is front k x c = omega arith
  passed (n ∷ older) run_is front k x c =
      let before = passed older run_is.0 (λ j. prefix_trans (records_grow catalog older n j) (front j)) in
      elim (site_cases k n.0) [
        | inl same ↦ up_to older n run_is front before k same.1 (length (journals_of catalog (n ∷ older) k))
            (omega arith) x c
        | inr apart ↦ subst (λ rs. length rs ≤ place_of x) (sym (records_away catalog older n k apart.1)) (before k x c)
      ]

  -- nothing is left
  pub none_left : (k : SiteId) → left k ≡ []
  none_left k = elim (left k) as (λ xs. left k ≡ xs → left k ≡ []) [
    | [] ↦ λ e. e
    | y ∷ rest ↦ λ e.
        let wait = head_waits k y rest e in
        let in_left : Contains (left k) y = subst (λ xs. Contains xs y) (sym e) (first_in y rest) in
        let past = passed run is (λ j. prefix_refl (journals_of catalog run j)) k y in_left in
        let item : Contains (items catalog k (journals_of catalog run k)) (Arrives wait.0 wait.1 wait.2) =
        subst (λ z. Contains (items catalog k (journals_of catalog run k)) z) wait.3
        (left_among (items_of catalog (journals_of catalog run)) left done taken k y in_left) in
        let within = slice_get_within (journals_of catalog run k) wait.0 (Seen wait.1 wait.2)
        (arrival_recorded catalog k (journals_of catalog run k) wait.0 wait.1 wait.2 item) in
        let at : place_of y ≡ wait.0 = ap place_of wait.3 in
        absurd (omega (arith, past, within, at))
  ] refl

-- so there is no circle
pub none_circled : (catalog : Catalog) (layouts : SiteId → Layout) → IsWhole catalog → (run : List InRun)
    → IsRun catalog layouts run → (a b : Named) → ¬ IsCycle catalog (journals_of catalog run) a b
none_circled catalog layouts whole run is a b c =
    let none = none_left catalog layouts whole run is c.left c.done c.taken c.stuck a.site in
    absurd (let e : ◌≡◌ {A = List Item} [] (Arrives a.index b.site c.seq ∷ c.rest) = sym none ∙ c.next in cc)
