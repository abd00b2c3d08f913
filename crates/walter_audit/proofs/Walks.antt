-- The order is the only one: it is walked step by step, and where it ends, every other order of the same items is.
use Rattle.std.proofs.Common.{◌≡◌, ◌+◌, ◌-◌, ◌<◌, ◌≤◌, ◌⊎◌, ◌||◌, ℕ, zero, suc, nat_eq, List, [], ◌∷◌, ◌++◌, length, drop, replicate, set, slice_get, slice_index, Some, None, refl, ap, sym, ◌∙◌, subst, arith, inl, inr, true, false, if◌then◌else◌}
use Rattle.std.specs.Prelude.{Bool, Contains, IsTrue, unwrap_or}
use Rattle.std.proofs.lemmas.Bool.{cases_eq, cases_order, eqb-true, eq-eqb, and_parts, or_cases}
use Rattle.std.proofs.lemmas.List.{length-append, length-set, get_or-set_same, get_or-set_other}
use Rattle.std.proofs.lemmas.List.Elements.{Contains-append_left, Contains-append_right, Contains-append_cases}
use Rattle.std.proofs.lemmas.Option.{same_Some, slice_get_within}
use Rattle.walter_base.specs.declared.names.SiteId.{SiteId}
use Rattle.walter_base.specs.declared.names.Version.{Version}
use Rattle.walter_base.specs.declared.transaction.Tx.{Tx}
use Rattle.walter_base.specs.Names.{same_site}
use Rattle.walter_base.proofs.NameTests.{same_site-true, same_site_refl}
use Rattle.walter_psi.proofs.Lists.{Contains-nil, Contains-one, contains_at}
use Rattle.walter_agreement.proofs.Cases.{site_cases, low_or}
use Rattle.walter_audit.specs.Orders.{Item, Starts, Commits, Arrives, Taken, CanGo, IsWaiting, left_at, AreTaken, none_taken, takes}
use Rattle.walter_audit.specs.Walks.{same_version, is_commit_of, can_go, GoesOn, all_of, next_at, IsNext, AreStuck, IsWalk}

-- a commit of these was taken
abbrev pub HasCommit : List Taken → Version → Type 0
HasCommit done v = (at : ℕ) × (tx : Tx) × Contains done (v.site, Commits at v.seq tx)

version-same : (a b : Version) → same_version a b ≡ true → a ≡ b
version-same a b is =
    let parts = and_parts (same_site a.site b.site) (nat_eq a.seq b.seq) is in
    let sites = same_site-true a.site b.site parts.0 in
    let seqs = eqb-true a.seq b.seq parts.1 in
    λ t. record { site = sites t; seq = seqs t }

version_refl : (a : Version) → same_version a a ≡ true
version_refl a = rw (same_site_refl a.site) (eq-eqb a.seq a.seq refl)

commit_of : (i : SiteId) (item : Item) (v : Version) → is_commit_of i item v ≡ true
    → (at : ℕ) × (tx : Tx) × (◌≡◌ {A = Taken} (i, item) (v.site, Commits at v.seq tx))
commit_of i (Commits place seq tx) v is =
    let same = version-same (record { site = i; seq = seq }) v is in
    (place, tx, (λ t. ((same t).site, Commits place (same t).seq tx)))
commit_of i (Starts place tx) v is = absurd (let e : false ≡ true = is in cc)
commit_of i (Arrives place j seq) v is = absurd (let e : false ≡ true = is in cc)

of_commit : (i : SiteId) (item : Item) (v : Version) (at : ℕ) (tx : Tx) → ◌≡◌ {A = Taken} (i, item) (v.site, Commits at v.seq tx)
    → is_commit_of i item v ≡ true
of_commit i item v at tx e =
    (λ t. is_commit_of (e t).0 (e t).1 v) ∙ version_refl v

-- one more was taken
has_more : (done : List Taken) (i : SiteId) (item : Item) (had has : Version → Bool)
    → ((v : Version) → has v ≡ (is_commit_of i item v || had v))
    → ((v : Version) → (IsTrue (had v) → HasCommit done v) × (HasCommit done v → IsTrue (had v)))
    → (v : Version) → (IsTrue (has v) → HasCommit (done ++ (i, item) ∷ []) v) × (HasCommit (done ++ (i, item) ∷ []) v → IsTrue (has v))
has_more done i item had has more known v = (
  λ t. elim (or_cases (is_commit_of i item v) (had v) (sym (more v) ∙ t)) [
    | inl here ↦
        let c = commit_of i item v here in (
          c.0,
          c.1,
          Contains-append_right done ((i, item) ∷ []) (v.site, Commits c.0 v.seq c.1)
              (subst (λ (x : Taken). Contains ((i, item) ∷ []) x) c.2 (contains_at ((i, item) ∷ []) (i, item) 0 refl)),
        )
    | inr before ↦
        let c = (known v).0 before in
        (c.0, c.1, Contains-append_left done ((i, item) ∷ []) (v.site, Commits c.0 v.seq c.1) c.2)
  ],
  λ c. elim (Contains-append_cases done ((i, item) ∷ []) (v.site, Commits c.0 v.seq c.1) c.2) [
    | inl before ↦
        let had_it : had v ≡ true = (known v).1 (c.0, c.1, before) in
        more v ∙ either (is_commit_of i item v) (had v) (inr had_it)
    | inr here ↦
        let is = of_commit i item v c.0 c.1 (Contains-one (i, item) (v.site, Commits c.0 v.seq c.1) here) in
        more v ∙ either (is_commit_of i item v) (had v) (inl is)
  ],
)
  where
    either : (x y : Bool) → (x ≡ true) ⊎ (y ≡ true) → (x || y) ≡ true
    either true y e = refl
    either false y e = elim e [ inl never ↦ absurd (let f : false ≡ true = never in cc) | inr is ↦ is ]

module _ (has : Version → Bool) (done : List Taken)
    (known : (v : Version) → (IsTrue (has v) → HasCommit done v) × (HasCommit done v → IsTrue (has v))) where
  goes_can : (item : Item) → IsTrue (can_go has item) → CanGo done item
  goes_can (Starts place tx) t = tt
  goes_can (Commits place seq tx) t = tt
  goes_can (Arrives place j seq) t = (known (record { site = j; seq = seq })).0 t

  can_goes : (item : Item) → CanGo done item → IsTrue (can_go has item)
  can_goes (Starts place tx) c = refl
  can_goes (Commits place seq tx) c = refl
  can_goes (Arrives place j seq) c = (known (record { site = j; seq = seq })).1 c

  -- a site of which the next item can't go on waits
  waits : (xs : List Item) (c : ℕ) → ¬ GoesOn has (slice_get xs c) → IsWaiting done (drop c xs)
  waits [] zero none = tt
  waits [] (suc c) none = tt
  waits (x ∷ xs) zero none = λ can. none (can_goes x can)
  waits (x ∷ xs) (suc c) none = waits xs c none

pub drop_at : {X : Type 0} (xs : List X) (c : ℕ) (x : X) → slice_get xs c ≡ Some x → drop c xs ≡ x ∷ drop (suc c) xs
drop_at [] c x at = absurd cc
drop_at (y ∷ ys) zero x at = let e : y ≡ x = same_Some y x at in λ t. e t ∷ ys
drop_at (y ∷ ys) (suc c) x at = drop_at ys c x at

pub none_behind : {X : Type 0} (xs : List X) (c : ℕ) → slice_get xs c ≡ None → drop c xs ≡ []
none_behind [] zero at = refl
none_behind [] (suc c) at = refl
none_behind (y ∷ ys) zero at = absurd cc
none_behind (y ∷ ys) (suc c) at = none_behind ys c at

-- so many items of each site were taken so far
pub record IsWalkTo (queues : List (List Item)) (has : Version → Bool) (order : List Taken) (cursors : List ℕ) : Type 0 where
  pub sized : length cursors ≡ length queues
  pub left : SiteId → List Item
  pub taken : AreTaken (all_of queues) left order
  pub is : (k : SiteId) → left k ≡ drop (slice_index cursors k.0) (all_of queues k)
  pub known : (v : Version) → (IsTrue (has v) → HasCommit order v) × (HasCommit order v → IsTrue (has v))
  pub few : (k : ℕ) → slice_index cursors k ≤ length order

module _ (queues : List (List Item)) where
  pub past_all : (n c : ℕ) → length queues ≤ n → slice_get (unwrap_or (slice_get queues n) []) c ≡ None
  past_all n c past = by queues n past
    where
      by : (qs : List (List Item)) (m : ℕ) → length qs ≤ m → slice_get (unwrap_or (slice_get qs m) []) c ≡ None
      by [] m l = refl
      by (q ∷ qs) zero l = absurd (omega (arith, l))
      by (q ∷ qs) (suc m) l = by qs m (omega (arith, l))

  pub walk_begun : (has : Version → Bool) (cursors : List ℕ) → length cursors ≡ length queues
      → ((n : ℕ) → slice_index cursors n ≡ 0) → ((v : Version) → has v ≡ false) → IsWalkTo queues has [] cursors
  walk_begun has cursors sized zeros none = record {
    sized = sized;
    left = all_of queues;
    taken = none_taken;
    is = λ k. ap (λ c. drop c (all_of queues k)) (sym (zeros k.0));
    known = λ v. (
      λ t. absurd (let e : false ≡ true = sym (none v) ∙ t in cc),
      λ c. absurd (Contains-nil (v.site, Commits c.0 v.seq c.1) c.2),
    );
    few = λ k. let none = zeros k in omega (arith, none);
  }

  module _ (has : Version → Bool) (order : List Taken) (cursors : List ℕ) (W : IsWalkTo queues has order cursors) where
    waits_at : (k : SiteId) → ¬ GoesOn has (next_at queues cursors k.0) → IsWaiting order (W.left k)
    waits_at k none = subst (λ xs. IsWaiting order xs) (sym (W.is k))
        (waits has order W.known (all_of queues k) (slice_index cursors k.0) none)

    pub walk_more : (n : ℕ) (item : Item) → IsNext has queues cursors n item → (new : Version → Bool)
        → ((v : Version) → new v ≡ (is_commit_of (record { 0 = n }) item v || has v))
        → IsWalkTo queues new (order ++ (record { 0 = n }, item) ∷ []) (set cursors n (slice_index cursors n + 1))
    walk_more n item next new more =
        let i : SiteId = record { 0 = n } in
        let c = slice_index cursors n in
        let front : drop c (all_of queues i) ≡ item ∷ drop (suc c) (all_of queues i) = drop_at (all_of queues i) c item next.next in
        let sized = W.sized in
        let within = next.within in
        record {
          sized = length-set cursors n (c + 1) ∙ sized;
          left = left_at i (drop (suc c) (all_of queues i)) W.left;
          taken = takes W.left order i item (drop (suc c) (all_of queues i)) W.taken (W.is i ∙ front)
              (goes_can has order W.known item next.goes) (λ k low. waits_at k (next.least k.0 low));
          is = λ k. elim (site_cases i k) [
            | inl same ↦
                let here : slice_index (set cursors n (c + 1)) k.0 ≡ suc c =
                ap (λ (j : SiteId). slice_index (set cursors n (c + 1)) j.0) (sym same.1)
                ∙ (get_or-set_same cursors n (c + 1) 0 (omega (arith, sized, within)) ∙ (omega arith)) in
                rw same.0 ((λ t. drop (suc c) (all_of queues (same.1 t))) ∙ ap (λ m. drop m (all_of queues k)) (sym here))
            | inr apart ↦
                let there : slice_index (set cursors n (c + 1)) k.0 ≡ slice_index cursors k.0 =
                get_or-set_other cursors n k.0 (c + 1) 0 (λ e. apart.1 (λ t. record { 0 = sym e t })) in
                rw apart.0 (W.is k ∙ ap (λ m. drop m (all_of queues k)) (sym there))
          ];
          known = has_more order i item has new more W.known;
          few = λ k.
              let long = length-append order ((i, item) ∷ []) in
              let before = W.few k in
              let here = W.few n in
              elim (cases_eq k n) [
                | inl same ↦
                    let put : slice_index (set cursors n (c + 1)) k ≡ c + 1 = ap (λ m. slice_index (set cursors n (c + 1)) m) same
                    ∙ get_or-set_same cursors n (c + 1) 0 (omega (arith, sized, within)) in
                    omega (arith, long, here, put)
                | inr apart ↦
                    let stays : slice_index (set cursors n (c + 1)) k ≡ slice_index cursors k = get_or-set_other cursors n k (c + 1) 0 apart in
                    omega (arith, long, before, stays)
              ];
        }

    pub walk_ends : AreStuck has queues cursors → IsWalk queues order cursors
    walk_ends stuck = record {
      sized = W.sized;
      left = W.left;
      taken = W.taken;
      is = W.is;
      stuck = λ k. waits_at k (λ goes. elim (low_or k.0 (length queues)) [
        | inl low ↦ stuck k.0 low goes
        | inr out ↦ subst (λ o. GoesOn has o) (past_all k.0 (slice_index cursors k.0) out) goes
      ]);
    }

-- how many items are left
abbrev pub left_total : List (List Item) → List ℕ → ℕ
left_total [] cursors = 0
left_total (q ∷ qs) [] = 0
left_total (q ∷ qs) (c ∷ cs) = (length q - c) + left_total qs cs

pub total_falls : (queues : List (List Item)) (cursors : List ℕ) (n : ℕ) (item : Item) → length cursors ≡ length queues
    → next_at queues cursors n ≡ Some item
    → left_total queues (set cursors n (slice_index cursors n + 1)) < left_total queues cursors
total_falls [] cursors n item sized at = absurd cc
total_falls (q ∷ qs) [] n item sized at = absurd (omega (arith, sized))
total_falls (q ∷ qs) (c ∷ cs) zero item sized at =
    let within = slice_get_within q c item at in
    omega (arith, within)
total_falls (q ∷ qs) (c ∷ cs) (suc n) item sized at =
    let rest = total_falls qs cs n item (omega (arith, sized)) at in
    omega (arith, rest)

-- Of all ways to take the items, those of one length are one.
module _ (all : SiteId → List Item) where
  abbrev AreSame : (SiteId → List Item) → List Taken → (SiteId → List Item) → List Taken → Type 0
  AreSame l d m e = ((k : SiteId) → l k ≡ m k) × (d ≡ e)

  longer : (d : List Taken) (x : Taken) → length (d ++ x ∷ []) ≡ length d + 1
  longer d x = length-append d (x ∷ [])

  -- the two next items are of one site
  one_site : (l m : SiteId → List Item) (d : List Taken) (i k : SiteId) (x y : Item) (xs ys : List Item)
      → ((j : SiteId) → l j ≡ m j) → l i ≡ x ∷ xs → m k ≡ y ∷ ys → CanGo d x
      → ((j : SiteId) → j.0 < k.0 → IsWaiting d (m j)) → i.0 < k.0 → ⊥
  one_site l m d i k x y xs ys same at there can least low =
      subst (λ zs. IsWaiting d zs) (sym (same i) ∙ at) (least i low) can

  next_same : (l m : SiteId → List Item) (d e : List Taken) (i k : SiteId) (x y : Item) (xs ys : List Item)
      → AreSame l d m e → l i ≡ x ∷ xs → m k ≡ y ∷ ys → CanGo d x → CanGo e y
      → ((j : SiteId) → j.0 < i.0 → IsWaiting d (l j)) → ((j : SiteId) → j.0 < k.0 → IsWaiting e (m j))
      → AreSame (left_at i xs l) (d ++ (i, x) ∷ []) (left_at k ys m) (e ++ (k, y) ∷ [])
  next_same l m d e i k x y xs ys same at there can_x can_y least_x least_y =
      let here : i ≡ k = elim (cases_order i.0 k.0) [
        | inl equal ↦ (λ t. record { 0 = equal t })
        | inr apart ↦ elim apart [
          | inl low ↦ absurd (one_site l m d i k x y xs ys same.0 at there can_x
              (λ j b. subst (λ z. IsWaiting z (m j)) (sym same.1) (least_y j b)) low)
          | inr high ↦ absurd (one_site m l e k i y x ys xs (λ j. sym (same.0 j)) there at can_y
              (λ j b. subst (λ z. IsWaiting z (l j)) same.1 (least_x j b)) high)
        ]
      ] in
      let lists : x ∷ xs ≡ y ∷ ys = sym at ∙ (same.0 i ∙ (ap m here ∙ there)) in
      let first : x ≡ y = (let f : x ≡ y = cc in f) in
      let rest : xs ≡ ys = (let f : xs ≡ ys = cc in f) in (
        λ j. λ t. if same_site (here t) j then rest t else same.0 j t,
        λ t. same.1 t ++ (here t, first t) ∷ [],
      )

  pub one_way : (l m : SiteId → List Item) (d e : List Taken) → AreTaken all l d → AreTaken all m e → length d ≡ length e
      → AreSame l d m e
  one_way l m d e (none_taken) (none_taken) long = (λ k. refl, refl)
  one_way l m2 d e2 (none_taken) (takes m e k y ys before there can least) long =
      absurd (let more = longer e (k, y) in omega (arith, long, more))
  one_way l2 m d2 e (takes l d i x xs before at can least) (none_taken) long =
      absurd (let more = longer d (i, x) in omega (arith, long, more))
  one_way l2 m2 d2 e2 (takes l d i x xs before at can least) (takes m e k y ys older there able lowest) long =
      let a = longer d (i, x) in
      let b = longer e (k, y) in
      next_same l m d e i k x y xs ys (one_way l m d e before older (omega (arith, long, a, b))) at there can able least lowest

  -- where nobody can go on none is longer
  pub longest : (l m : SiteId → List Item) (d e : List Taken) → AreTaken all l d → ((k : SiteId) → IsWaiting d (l k))
      → AreTaken all m e → length e ≤ length d
  longest l m d e taken stuck (none_taken) = omega arith
  longest l m2 d e2 taken stuck (takes m e k y ys before at can least) =
      let more = longer e (k, y) in
      let rest = longest l m d e taken stuck before in
      elim (cases_eq (length e) (length d)) [
        | inr apart ↦ omega (arith, more, rest, apart)
        | inl long ↦ absurd (
            let same = one_way m l e d before taken long in
            let here = subst (λ zs. IsWaiting d zs) (sym (same.0 k)) (stuck k) in
            let waiting = subst (λ z. IsWaiting z (m k)) (sym same.1) here in
            subst (λ zs. IsWaiting e zs) at waiting can)
      ]

  -- so where nobody can go on in either they are one
  pub one_end : (l m : SiteId → List Item) (d e : List Taken) → AreTaken all l d → ((k : SiteId) → IsWaiting d (l k))
      → AreTaken all m e → ((k : SiteId) → IsWaiting e (m k)) → AreSame l d m e
  one_end l m d e a stuck b ended =
      let x = longest l m d e a stuck b in
      let y = longest m l e d b ended a in
      one_way l m d e a b (omega (arith, x, y))

pub zeros_at : (xs : List ℕ) (m : ℕ) → xs ≡ replicate m 0 → (k : ℕ) → slice_index xs k ≡ 0
zeros_at xs m e k = ap (λ l. slice_index l k) e ∙ by m k
  where
    by : (m k : ℕ) → slice_index (replicate m 0) k ≡ 0
    by zero k = refl
    by (suc m) zero = refl
    by (suc m) (suc k) = by m k
