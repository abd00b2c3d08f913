-- The history that an order spells: what starts, commits and stands in logs there.
use Rattle.std.proofs.Common.{◌≡◌, ◌⊎◌, ℕ, List, [], ◌∷◌, ◌++◌, map, Some, None, refl, ap, sym, ◌∙◌, subst, inl, inr, if◌then◌else◌, true, false}
use Rattle.std.specs.Prelude.{Option, Bool, Contains, flat_map}
use Rattle.std.proofs.lemmas.Grind.{flat_map-append}
use Rattle.std.proofs.lemmas.List.{append-nil, append_assoc}
use Rattle.std.proofs.lemmas.List.Elements.{Contains-append_right, Contains-append_cases}
use Rattle.walter_base.specs.declared.names.SiteId.{SiteId}
use Rattle.walter_base.specs.declared.names.Tid.{Tid}
use Rattle.walter_base.specs.declared.transaction.Cause.{Cause}
use Rattle.walter_base.specs.declared.transaction.Tx.{Tx}
use Rattle.walter_base.specs.declared.update.Update.{Update}
use Rattle.walter_base.specs.Names.{same_site, same_tid}
use Rattle.walter_psi.specs.declared.step.Notice.{Notice}
use Rattle.walter_psi.specs.declared.step.Step.{Step}
use Rattle.walter_psi.specs.declared.step.Step.TheVariants.{Start, Op, Commit, Arrive, Abort, Told}
use Rattle.walter_psi.specs.Histories.{log, logged, done as did, given, own_updates, committed_updates, IsStarted, IsCommitted}
use Rattle.walter_psi.proofs.Lists.{Contains-nil, Contains-one, Contains-flat_map, Contains-flat_map_from, flat_map-push}
use Rattle.walter_rules.proofs.Membership.{in_cases, first_in, later_in, made_from}
use Rattle.walter_agreement.proofs.Cases.{site_cases}
use Rattle.walter_audit.specs.Journals.{Journals, own_at}
use Rattle.walter_audit.specs.Orders.{Item, Starts, Commits, Arrives, Taken, left_at, AreTaken, none_taken, takes, arrived, steps_of, history}
use Rattle.walter_audit.proofs.Sorted.{named_by, item_tids}

-- what was taken of a site, in order
abbrev pub taken_of : SiteId → List Taken → List Item
taken_of k [] = []
taken_of k (t ∷ ts) = if same_site t.0 k then t.1 ∷ taken_of k ts else taken_of k ts

taken-append : (k : SiteId) (ts us : List Taken) → taken_of k (ts ++ us) ≡ taken_of k ts ++ taken_of k us
taken-append k [] us = refl
taken-append k (t ∷ ts) us = elim (same_site t.0 k) as
    (λ b. (if b then t.1 ∷ taken_of k (ts ++ us) else taken_of k (ts ++ us))
    ≡ (if b then t.1 ∷ taken_of k ts else taken_of k ts) ++ taken_of k us) [
      | true ↦ ap (λ z. t.1 ∷ z) (taken-append k ts us)
      | false ↦ taken-append k ts us
    ]

-- all items of a site are those that were taken and those that are left
pub split : (all left : SiteId → List Item) (done : List Taken) → AreTaken all left done → (k : SiteId)
    → all k ≡ taken_of k done ++ left k
split all left done (none_taken) k = refl
split all left2 done2 (takes left done i item rest before is go least) k = elim (site_cases i k) [
  | inl same ↦
      let now : left k ≡ item ∷ rest = subst (λ j. left j ≡ item ∷ rest) same.1 is in
      let one : taken_of k ((i, item) ∷ []) ≡ item ∷ [] = rw same.0 refl in
      let there : left_at i rest left k ≡ rest = rw same.0 refl in
      let grown : taken_of k (done ++ (i, item) ∷ []) ≡ taken_of k done ++ item ∷ [] = taken-append k done ((i, item) ∷ [])
      ∙ ap (λ t. taken_of k done ++ t) one in
      let both : taken_of k (done ++ (i, item) ∷ []) ++ left_at i rest left k ≡ (taken_of k done ++ item ∷ []) ++ rest =
      (λ t. grown t ++ there t) in
      split all left done before k ∙ (ap (λ t. taken_of k done ++ t) now
      ∙ (sym (append_assoc (taken_of k done) (item ∷ []) rest) ∙ sym both))
  | inr apart ↦
      let one : taken_of k ((i, item) ∷ []) ≡ [] = rw apart.0 refl in
      let there : left_at i rest left k ≡ left k = rw apart.0 refl in
      let grown : taken_of k (done ++ (i, item) ∷ []) ≡ taken_of k done = taken-append k done ((i, item) ∷ [])
      ∙ (ap (λ t. taken_of k done ++ t) one ∙ append-nil (taken_of k done)) in
      let both : taken_of k (done ++ (i, item) ∷ []) ++ left_at i rest left k ≡ taken_of k done ++ left k =
      (λ t. grown t ++ there t) in
      split all left done before k ∙ sym both
]

pub taken_in : (k : SiteId) (ts : List Taken) (x : Item) → Contains (taken_of k ts) x → Contains ts (k, x)
taken_in k [] x c = absurd (Contains-nil x c)
taken_in k (t ∷ ts) x c = elim (site_cases t.0 k) [
  | inl same ↦
      let here : Contains (t.1 ∷ taken_of k ts) x = rw same.0 at c in
      elim (in_cases t.1 (taken_of k ts) x here) [
        | inl first ↦ subst (λ (z : Taken). Contains (t ∷ ts) z) (λ u. (same.1 u, first u)) (first_in t ts)
        | inr later ↦ later_in t ts (k, x) (taken_in k ts x later)
      ]
  | inr apart ↦ later_in t ts (k, x) (taken_in k ts x (rw apart.0 at c))
]

pub in_taken : (k : SiteId) (ts : List Taken) (x : Item) → Contains ts (k, x) → Contains (taken_of k ts) x
in_taken k [] x c = absurd (Contains-nil (k, x) c)
in_taken k (t ∷ ts) x c = elim (in_cases t ts (k, x) c) [
  | inl here ↦
      let site : t.0 ≡ k = ap (λ (z : Taken). z.0) here in
      let item : t.1 ≡ x = ap (λ (z : Taken). z.1) here in
      elim (site_cases t.0 k) [
        | inl same ↦ rw same.0 (subst (λ z. Contains (t.1 ∷ taken_of k ts) z) item (first_in t.1 (taken_of k ts)))
        | inr apart ↦ absurd (apart.1 site)
      ]
  | inr there ↦
      let rest = in_taken k ts x there in
      elim (same_site t.0 k) as (λ b. Contains (if b then t.1 ∷ taken_of k ts else taken_of k ts) x) [
        | true ↦ later_in t.1 (taken_of k ts) x rest
        | false ↦ rest
      ]
]

-- one item more
pub history_push : (J : Journals) (done : List Taken) (t : Taken) → history J (done ++ t ∷ []) ≡ history J done ++ steps_of J t
history_push J done t = flat_map-push (steps_of J) done t

-- updates log nothing
ops_log : (k : SiteId) (x : Tid) (us : List Update) (rest : List Step)
    → log k (map (λ u. Op x u) us ++ rest) ≡ log k rest
ops_log k x [] rest = refl
ops_log k x (u ∷ us) rest = ops_log k x us rest

-- an own commit is of its site
abbrev pub IsHome : Taken → Type 0
IsHome (i, Starts p tx) = Unit {0}
IsHome (i, Commits p seq tx) = tx.tid.site ≡ i
IsHome (i, Arrives p j seq) = Unit {0}

steps_log : (J : Journals) (k : SiteId) (t : Taken) → IsHome t → log k (steps_of J t) ≡ (if same_site t.0 k then item_tids J t.1 else [])
steps_log J k (i, Starts p tx) home = elim (same_site i k) as (λ b. ◌≡◌ {A = List Tid} [] (if b then [] else [])) [ true ↦ refl | false ↦ refl ]
steps_log J k (i, Commits p seq tx) home =
    ops_log k tx.tid tx.updates (Commit tx.tid tx.updates ∷ [])
    ∙ (append-nil (if same_site tx.tid.site k then tx.tid ∷ [] else [])
    ∙ ap (λ z. if same_site z k then tx.tid ∷ [] else []) home)
steps_log J k (i, Arrives p j seq) home = by (own_at J j seq)
  where
    by : (o : Option Tx) → log k (arrived i o) ≡ (if same_site i k then named_by o else [])
    by None = elim (same_site i k) as (λ b. ◌≡◌ {A = List Tid} [] (if b then [] else [])) [ true ↦ refl | false ↦ refl ]
    by (Some tx) = append-nil (if same_site i k then tx.tid ∷ [] else [])

-- the log of a site is what its items that were taken commit
pub history_log : (J : Journals) (k : SiteId) (done : List Taken) → ((t : Taken) → Contains done t → IsHome t)
    → log k (history J done) ≡ flat_map (item_tids J) (taken_of k done)
history_log J k [] home = refl
history_log J k (t ∷ ts) home =
    flat_map-append (logged k) (steps_of J t) (history J ts)
    ∙ ((λ u. steps_log J k t (home t (first_in t ts)) u ++ history_log J k ts (λ s c. home s (later_in t ts s c)) u)
    ∙ join)
  where
    join : (if same_site t.0 k then item_tids J t.1 else []) ++ flat_map (item_tids J) (taken_of k ts)
        ≡ flat_map (item_tids J) (if same_site t.0 k then t.1 ∷ taken_of k ts else taken_of k ts)
    join = elim (same_site t.0 k) as
        (λ b. (if b then item_tids J t.1 else []) ++ flat_map (item_tids J) (taken_of k ts)
        ≡ flat_map (item_tids J) (if b then t.1 ∷ taken_of k ts else taken_of k ts)) [ true ↦ refl | false ↦ refl ]

-- no update is another step
op_is : (x : Tid) (us : List Update) (step : Step) → Contains (map (λ u. Op x u) us) step → (u : Update) × (step ≡ Op x u)
op_is x us step c = let m = made_from (λ u. Op x u) us step c in (m.0, sym m.2)

-- what stands in the steps of an item
in_commit : (x : Tid) (us : List Update) (step : Step) → Contains (map (λ u. Op x u) us ++ Commit x us ∷ []) step
    → ((u : Update) × (step ≡ Op x u)) ⊎ (step ≡ Commit x us)
in_commit x us step c = elim (Contains-append_cases (map (λ u. Op x u) us) (Commit x us ∷ []) step c) [
  | inl op ↦ inl (op_is x us step op)
  | inr commit ↦ inr (sym (Contains-one (Commit x us) step commit))
]

in_arrived : (i : SiteId) (o : Option Tx) (step : Step) → Contains (arrived i o) step → (x : Tid) × (step ≡ Arrive x i)
in_arrived i None step c = absurd (Contains-nil step c)
in_arrived i (Some tx) step c = (tx.tid, sym (Contains-one (Arrive tx.tid i) step c))

-- what starts
start_of : (J : Journals) (x : Tid) (site : SiteId) (t : Taken) → Contains (steps_of J t) (Start x site)
    → (i : SiteId) × (p : ℕ) × (tx : Tx) × (t ≡ (i, Starts p tx)) × (tx.tid ≡ x)
start_of J x site (i, Starts p tx) c = (i, p, tx, refl, let e : Start tx.tid i ≡ Start x site = Contains-one (Start tx.tid i) (Start x site) c in cc)
start_of J x site (i, Commits p seq tx) c = elim (in_commit tx.tid tx.updates (Start x site) c) [
  | inl op ↦ absurd (let e : Start x site ≡ Op tx.tid op.0 = op.1 in cc)
  | inr commit ↦ absurd (let e : Start x site ≡ Commit tx.tid tx.updates = commit in cc)
]
start_of J x site (i, Arrives p j seq) c = let a = in_arrived i (own_at J j seq) (Start x site) c in
    absurd (let e : Start x site ≡ Arrive a.0 i = a.1 in cc)

pub started_from : (J : Journals) (done : List Taken) (x : Tid) → IsStarted x (history J done)
    → (i : SiteId) × (p : ℕ) × (tx : Tx) × Contains done (i, Starts p tx) × (tx.tid ≡ x)
started_from J done x s =
    let from = Contains-flat_map_from (steps_of J) done (Start x s.0) s.1 in
    let st = start_of J x s.0 from.0 from.2 in
    (st.0, st.1, st.2, subst (λ (t : Taken). Contains done t) st.3 from.1, st.4)

pub starts_here : (J : Journals) (done : List Taken) (i : SiteId) (p : ℕ) (tx : Tx) → Contains done (i, Starts p tx)
    → IsStarted tx.tid (history J done)
starts_here J done i p tx c = (i, Contains-flat_map (steps_of J) done (i, Starts p tx) (Start tx.tid i) c (first_in (Start tx.tid i) []))

-- what commits
commit_of : (J : Journals) (x : Tid) (us : List Update) (t : Taken) → Contains (steps_of J t) (Commit x us)
    → (i : SiteId) × (p : ℕ) × (seq : ℕ) × (tx : Tx) × (t ≡ (i, Commits p seq tx)) × (tx.tid ≡ x)
commit_of J x us (i, Starts p tx) c = absurd (let e : Start tx.tid i ≡ Commit x us = Contains-one (Start tx.tid i) (Commit x us) c in cc)
commit_of J x us (i, Commits p seq tx) c = elim (in_commit tx.tid tx.updates (Commit x us) c) [
  | inl op ↦ absurd (let e : Commit x us ≡ Op tx.tid op.0 = op.1 in cc)
  | inr commit ↦ (i, p, seq, tx, refl, let e : Commit x us ≡ Commit tx.tid tx.updates = commit in cc)
]
commit_of J x us (i, Arrives p j seq) c = let a = in_arrived i (own_at J j seq) (Commit x us) c in
    absurd (let e : Commit x us ≡ Arrive a.0 i = a.1 in cc)

pub committed_from : (J : Journals) (done : List Taken) (x : Tid) → IsCommitted x (history J done)
    → (i : SiteId) × (p : ℕ) × (seq : ℕ) × (tx : Tx) × Contains done (i, Commits p seq tx) × (tx.tid ≡ x)
committed_from J done x s =
    let from = Contains-flat_map_from (steps_of J) done (Commit x s.0) s.1 in
    let st = commit_of J x s.0 from.0 from.2 in
    (st.0, st.1, st.2, st.3, subst (λ (t : Taken). Contains done t) st.4 from.1, st.5)

pub commit_stands : (J : Journals) (done : List Taken) (i : SiteId) (p seq : ℕ) (tx : Tx) → Contains done (i, Commits p seq tx)
    → Contains (history J done) (Commit tx.tid tx.updates)
commit_stands J done i p seq tx c = Contains-flat_map (steps_of J) done (i, Commits p seq tx) (Commit tx.tid tx.updates) c
    (Contains-append_right (map (λ u. Op tx.tid u) tx.updates) (Commit tx.tid tx.updates ∷ []) (Commit tx.tid tx.updates)
    (first_in (Commit tx.tid tx.updates) []))

-- nothing is aborted, and nobody is told
none_aborts : (J : Journals) (x : Tid) (cause : Cause) (t : Taken) → ¬ Contains (steps_of J t) (Abort x cause)
none_aborts J x cause (i, Starts p tx) c = let e : Start tx.tid i ≡ Abort x cause = Contains-one (Start tx.tid i) (Abort x cause) c in cc
none_aborts J x cause (i, Commits p seq tx) c = elim (in_commit tx.tid tx.updates (Abort x cause) c) [
  | inl op ↦ let e : Abort x cause ≡ Op tx.tid op.0 = op.1 in cc
  | inr commit ↦ let e : Abort x cause ≡ Commit tx.tid tx.updates = commit in cc
]
none_aborts J x cause (i, Arrives p j seq) c = let a = in_arrived i (own_at J j seq) (Abort x cause) c in
    let e : Abort x cause ≡ Arrive a.0 i = a.1 in cc

none_told : (J : Journals) (x : Tid) (what : Notice) (t : Taken) → ¬ Contains (steps_of J t) (Told x what)
none_told J x what (i, Starts p tx) c = let e : Start tx.tid i ≡ Told x what = Contains-one (Start tx.tid i) (Told x what) c in cc
none_told J x what (i, Commits p seq tx) c = elim (in_commit tx.tid tx.updates (Told x what) c) [
  | inl op ↦ let e : Told x what ≡ Op tx.tid op.0 = op.1 in cc
  | inr commit ↦ let e : Told x what ≡ Commit tx.tid tx.updates = commit in cc
]
none_told J x what (i, Arrives p j seq) c = let a = in_arrived i (own_at J j seq) (Told x what) c in
    let e : Told x what ≡ Arrive a.0 i = a.1 in cc

pub no_abort : (J : Journals) (done : List Taken) (x : Tid) (cause : Cause) → ¬ Contains (history J done) (Abort x cause)
no_abort J done x cause c =
    let from = Contains-flat_map_from (steps_of J) done (Abort x cause) c in none_aborts J x cause from.0 from.2

pub no_notice : (J : Journals) (done : List Taken) (x : Tid) (what : Notice) → ¬ Contains (history J done) (Told x what)
no_notice J done x what c =
    let from = Contains-flat_map_from (steps_of J) done (Told x what) c in none_told J x what from.0 from.2

-- what a transaction did is what it committed
ops_did : (x y : Tid) (us : List Update) (rest : List Step)
    → flat_map (did x) (map (λ u. Op y u) us ++ rest) ≡ (if same_tid x y then us else []) ++ flat_map (did x) rest
ops_did x y us rest = by (same_tid x y) us refl
  where
    by : (b : Bool) (us : List Update) → same_tid x y ≡ b
        → flat_map (did x) (map (λ u. Op y u) us ++ rest) ≡ (if b then us else []) ++ flat_map (did x) rest
    by true [] is = refl
    by true (u ∷ us) is = ap (λ c. (if c then u ∷ [] else []) ++ flat_map (did x) (map (λ u. Op y u) us ++ rest)) is
        ∙ ap (λ z. u ∷ z) (by true us is)
    by false [] is = refl
    by false (u ∷ us) is = ap (λ c. (if c then u ∷ [] else []) ++ flat_map (did x) (map (λ u. Op y u) us ++ rest)) is
        ∙ by false us is

ops_gave : (x y : Tid) (us : List Update) (rest : List Step)
    → flat_map (given x) (map (λ u. Op y u) us ++ rest) ≡ flat_map (given x) rest
ops_gave x y [] rest = refl
ops_gave x y (u ∷ us) rest = ops_gave x y us rest

did_gave : (J : Journals) (x : Tid) (t : Taken) → flat_map (did x) (steps_of J t) ≡ flat_map (given x) (steps_of J t)
did_gave J x (i, Starts p tx) = refl
did_gave J x (i, Commits p seq tx) = ops_did x tx.tid tx.updates (Commit tx.tid tx.updates ∷ [])
    ∙ sym (ops_gave x tx.tid tx.updates (Commit tx.tid tx.updates ∷ []))
did_gave J x (i, Arrives p j seq) = by (own_at J j seq)
  where
    by : (o : Option Tx) → flat_map (did x) (arrived i o) ≡ flat_map (given x) (arrived i o)
    by None = refl
    by (Some tx) = refl

pub did_what_committed : (J : Journals) (done : List Taken) (x : Tid)
    → own_updates x (history J done) ≡ committed_updates (history J done) x
did_what_committed J [] x = refl
did_what_committed J (t ∷ ts) x = flat_map-append (did x) (steps_of J t) (history J ts)
    ∙ ((λ u. did_gave J x t u ++ did_what_committed J ts x u)
    ∙ sym (flat_map-append (given x) (steps_of J t) (history J ts)))
