-- The history that is spelled by what was taken of journals in which no reason stands is legal.
use Rattle.std.proofs.Common.{◌≡◌, ◌≢◌, ◌<◌, ◌≤◌, ◌⊎◌, ℕ, List, [], ◌∷◌, ◌++◌, map, take, slice_get, Some, refl, ap, sym, ◌∙◌, subst, arith, inl, inr, if◌then◌else◌, true}
use Rattle.std.specs.Prelude.{Contains, All}
use Rattle.std.proofs.lemmas.Grind.{flat_map-append}
use Rattle.std.proofs.lemmas.List.{append-nil, append_assoc}
use Rattle.std.proofs.lemmas.List.Elements.{Contains-append_left, Contains-append_right, Contains-append_cases, Contains-push_cases}
use Rattle.std.proofs.lemmas.Option.{same_Some}
use Rattle.walter_base.specs.declared.catalog.Catalog.{Catalog}
use Rattle.walter_base.specs.declared.message.Record.{Record}
use Rattle.walter_base.specs.declared.message.Record.TheVariants.{Boot, Own, Got, Seen, Prepared, Released, SlowBegin, SlowEnd, Marks, Format as FormatRecord}
use Rattle.walter_base.specs.declared.names.SiteId.{SiteId}
use Rattle.walter_base.specs.declared.names.Tid.{Tid}
use Rattle.walter_base.specs.declared.transaction.Tx.{Tx}
use Rattle.walter_base.specs.declared.update.Update.{Update}
use Rattle.walter_base.specs.Values.{DoConflict}
use Rattle.walter_base.specs.Vectors.{entry_at}
use Rattle.walter_base.proofs.NameTests.{same_tid_refl}
use Rattle.walter_psi.specs.declared.step.Level.TheVariants.{NotCommitted}
use Rattle.walter_psi.specs.declared.step.Notice.TheVariants.{Level as OfLevel}
use Rattle.walter_psi.specs.declared.step.Step.{Step}
use Rattle.walter_psi.specs.declared.step.Step.TheVariants.{Start, Op, Commit, Arrive, Abort, Told}
use Rattle.walter_psi.specs.Histories.{log, done as did, snapshot, own_updates, committed_updates, IsStarted, IsCommitted}
use Rattle.walter_psi.specs.Legal.{IsLegal, IsRunning, IsBlocked}
use Rattle.walter_psi.proofs.LegalFacts.{none_committed, committed_updates_of}
use Rattle.walter_psi.proofs.Lists.{Contains-nil, contains_at, place_of}
use Rattle.walter_psi.proofs.OneMore.{legal_snoc, started_kept, committed_snoc}
use Rattle.walter_psi.proofs.Snapshots.{snapshot_kept, snapshot_here}
use Rattle.walter_rules.proofs.Membership.{in_cases, first_in, made_from}
use Rattle.walter_agreement.proofs.Cases.{low_or}
use Rattle.walter_alone.proofs.TestsPass.{all_of}
use Rattle.walter_audit.specs.declared.finding.Named.{Named}
use Rattle.walter_audit.specs.Journals.{Journals, own_at, are_counts}
use Rattle.walter_audit.specs.Orders.{Item, Starts, Commits, Arrives, items, is_shortest, Taken, CanGo, left_at, AreTaken, none_taken, takes, items_of, arrived, steps_of, history}
use Rattle.walter_audit.specs.Reasons.{AreUnordered}
use Rattle.walter_audit.proofs.Clear.{AreClear, same_own, owns_apart, begins_at, one_shortest, tids_to, start_entry, in_tids, from_tids, seen_covered}
use Rattle.walter_audit.proofs.Items.{item_recorded, arrival_recorded, commit_item}
use Rattle.walter_audit.proofs.Numbered.{DoesCommit, counted_stands, own_place, seen_place, own_found}
use Rattle.walter_audit.proofs.Sorted.{items_sorted, items_apart, sorted_cut, apart_cut, item_tids, record_tids, before_item}
use Rattle.walter_audit.proofs.Spelling.{taken_of, split, taken_in, in_taken, history_push, IsHome, history_log, started_from, starts_here, committed_from, commit_stands, no_abort, no_notice, did_what_committed}
use Rattle.walter_audit.proofs.Telling.{own_here, own_number, seen_there}

-- updates of a running transaction leave it running, and the history legal
still_running : (x : Tid) (steps : List Step) (u : Update) → IsRunning x steps → IsRunning x (steps ++ Op x u ∷ [])
still_running x steps u r = (
  started_kept x steps (Op x u ∷ []) r.0,
  λ over. elim over [
    | inl committed ↦ elim ((committed_snoc x steps (Op x u)).0 committed) [
      | inl before ↦ r.1 (inl before)
      | inr here ↦ absurd (let e : Op x u ≡ Commit x here.0 = here.1 in cc)
    ]
    | inr aborted ↦ elim (Contains-push_cases steps (Op x u) (Abort x aborted.0) aborted.1) [
      | inl before ↦ r.1 (inr (aborted.0, before))
      | inr here ↦ absurd (let e : Op x u ≡ Abort x aborted.0 = here in cc)
    ]
  ],
)

ops_legal : (x : Tid) (us : List Update) (steps : List Step) → IsLegal steps → IsRunning x steps
    → IsLegal (steps ++ map (λ u. Op x u) us) × IsRunning x (steps ++ map (λ u. Op x u) us)
ops_legal x [] steps legal r = subst (λ all. IsLegal all × IsRunning x all) (sym (append-nil steps)) (legal, r)
ops_legal x (u ∷ us) steps legal r =
    subst (λ all. IsLegal all × IsRunning x all) (append_assoc steps (Op x u ∷ []) (map (λ v. Op x v) us))
    (ops_legal x us (steps ++ Op x u ∷ []) (legal_snoc steps (Op x u) legal r) (still_running x steps u r))

ops_done : (x : Tid) (us : List Update) → own_updates x (map (λ u. Op x u) us) ≡ us
ops_done x [] = refl
ops_done x (u ∷ us) = ap (λ b. (if b then u ∷ [] else []) ++ own_updates x (map (λ v. Op x v) us)) (same_tid_refl x)
    ∙ ap (λ z. u ∷ z) (ops_done x us)

-- what is not an update stands before them
before_ops : (x : Tid) (us : List Update) (steps : List Step) (step : Step) → ((u : Update) → step ≢ Op x u)
    → Contains (steps ++ map (λ u. Op x u) us) step → Contains steps step
before_ops x us steps step other c = elim (Contains-append_cases steps (map (λ u. Op x u) us) step c) [
  | inl before ↦ before
  | inr op ↦ let m = made_from (λ u. Op x u) us step op in absurd (other m.0 (sym m.2))
]

-- of what was taken: the history is legal, a snapshot is what the records before the start's place commit, and what
-- arrived was committed
pub record IsSpelled (J : Journals) (done : List Taken) : Type 0 where
  pub legal : IsLegal (history J done)
  pub snapshots : (i : SiteId) (p : ℕ) (tx : Tx) → Contains done (i, Starts p tx)
      → snapshot tx.tid (history J done) ≡ tids_to J i p
  pub arrivals : (i : SiteId) (p : ℕ) (j : SiteId) (seq : ℕ) → Contains done (i, Arrives p j seq)
      → (at : ℕ) × (tx : Tx) × Contains done (j, Commits at seq tx)

module _ (catalog : Catalog) (J : Journals) (C : AreClear catalog J)
    (unordered : (a b : Named) → ¬ AreUnordered J a b)
    (some : (i : SiteId) (p seq : ℕ) (tx : Tx) → slice_get (J i) p ≡ Some (Own seq tx) → tx.updates ≢ []) where
  all_items : SiteId → List Item
  all_items = items_of catalog J

  module _ (left : SiteId → List Item) (done : List Taken) (taken : AreTaken (items_of catalog J) left done) where
    among : (k : SiteId) (x : Item) → Contains done (k, x) → Contains (items catalog k (J k)) x
    among k x c = subst (λ xs. Contains xs x) (sym (split (items_of catalog J) left done taken k))
        (Contains-append_left (taken_of k done) (left k) x (in_taken k done x c))

    committed_record : (k : SiteId) (p seq : ℕ) (tx : Tx) → Contains done (k, Commits p seq tx)
        → slice_get (J k) p ≡ Some (Own seq tx)
    committed_record k p seq tx c = elim (item_recorded catalog k (J k) (Commits p seq tx) (among k (Commits p seq tx) c)) [
      | inl of ↦ of
      | inr start ↦ absurd (let e : Commits p seq tx ≡ Starts start.0 start.2 = start.5 in cc)
    ]

    started_record : (k : SiteId) (p : ℕ) (tx : Tx) → Contains (items catalog k (J k)) (Starts p tx)
        → (q : ℕ) × (seq : ℕ) × (slice_get (J k) q ≡ Some (Own seq tx)) × (is_shortest catalog k (J k) tx.start p ≡ true)
    started_record k p tx c = elim (item_recorded catalog k (J k) (Starts p tx) c) [
      | inl of ↦ absurd of
      | inr start ↦
          let e : Starts p tx ≡ Starts start.0 start.2 = start.5 in
          let place : start.0 ≡ p = (let f : p ≡ start.0 = cc in sym f) in
          let same : start.2 ≡ tx = (let f : tx ≡ start.2 = cc in sym f) in
          let at = Rattle.walter_psi.proofs.Lists.place_of (J k) (Own start.1 start.2) start.3 in (
            at.0,
            start.1,
            subst (λ (z : Tx). slice_get (J k) at.0 ≡ Some (Own start.1 z)) same at.1,
            subst (λ (z : Tx). is_shortest catalog k (J k) z.start p ≡ true) same
                (subst (λ n. is_shortest catalog k (J k) start.2.start n ≡ true) place start.4),
          )
    ]

    pub home : (t : Taken) → Contains done t → IsHome t
    home (i, Starts p tx) c = tt
    home (i, Commits p seq tx) c = own_here catalog i (J i) (C.follow i) p seq tx (committed_record i p seq tx c)
    home (i, Arrives p j seq) c = tt

    -- before an item of a site that is next
    module _ (S : IsSpelled J done) (i : SiteId) (item : Item) (rest : List Item) (next : left i ≡ item ∷ rest) where
      cut_here : items catalog i (J i) ≡ taken_of i done ++ item ∷ rest
      cut_here = split (items_of catalog J) left done taken i ∙ ap (λ t. taken_of i done ++ t) next

      here_log : log i (history J done) ≡ tids_to J i (Rattle.walter_audit.specs.Orders.place_of item)
      here_log = history_log J i done home ∙ before_item catalog i J (J i) (taken_of i done) rest item cut_here

      not_yet : ¬ Contains done (i, item)
      not_yet c = apart_cut (taken_of i done) (item ∷ rest)
          (subst (λ xs. Rattle.walter_audit.proofs.Sorted.AreApart xs) cut_here (items_apart catalog i (J i) (owns_apart catalog J C i)))
          item (in_taken i done item c) (first_in item rest)

      in_items : Contains (items catalog i (J i)) item
      in_items = subst (λ xs. Contains xs item) (sym cut_here) (Contains-append_right (taken_of i done) (item ∷ rest) item (first_in item rest))

    -- what was taken of a site stands before what is left of it
    behind : (k : SiteId) (x y : Item) → Contains done (k, x) → Contains (left k) y
        → Rattle.walter_audit.proofs.Sorted.IsAfter x y
    behind k x y c d = sorted_cut (taken_of k done) (left k)
        (subst (λ xs. Rattle.walter_audit.proofs.Sorted.AreSorted xs) (split (items_of catalog J) left done taken k) (items_sorted catalog k (J k)))
        x y (in_taken k done x c) d

    done_or_left : (k : SiteId) (x : Item) → Contains (items catalog k (J k)) x → Contains done (k, x) ⊎ Contains (left k) x
    done_or_left k x c = elim (Contains-append_cases (taken_of k done) (left k) x
        (subst (λ xs. Contains xs x) (split (items_of catalog J) left done taken k) c)) [
          | inl t ↦ inl (taken_in k done x t)
          | inr l ↦ inr l
        ]

    -- the start of what was committed was taken
    start_taken : (k : SiteId) (p seq : ℕ) (tx : Tx) → Contains done (k, Commits p seq tx)
        → (q : ℕ) × (q ≤ p) × (are_counts catalog k (take q (J k)) tx.start ≡ true) × Contains done (k, Starts q tx)
    start_taken k p seq tx c =
        let b = begins_at catalog J C k p seq tx (committed_record k p seq tx c) in (
          b.0,
          b.1,
          b.3,
          elim (done_or_left k (Starts b.0 tx) b.4) [
            | inl is ↦ is
            | inr is ↦ absurd (let l = behind k (Commits p seq tx) (Starts b.0 tx) c is in let m = b.1 in omega (arith, l, m))
          ],
        )

  -- a start
  start_step : (left : SiteId → List Item) (done : List Taken) (taken : AreTaken (items_of catalog J) left done)
      → IsSpelled J done → (i : SiteId) (p : ℕ) (tx : Tx) (rest : List Item) → left i ≡ Starts p tx ∷ rest
      → IsSpelled J (done ++ (i, Starts p tx) ∷ [])
  start_step left done taken S i p tx rest next =
      let h : List Step = history J done in
      let rec = started_record left done taken i p tx (in_items left done taken S i (Starts p tx) rest next) in
      let site : tx.tid.site ≡ i = own_here catalog i (J i) (C.follow i) rec.0 rec.1 tx rec.2 in
      let fresh : ¬ IsStarted tx.tid h = λ started.
      let f = started_from J done tx.tid started in
      let other = started_record left done taken f.0 f.1 f.2 (among left done taken f.0 (Starts f.1 f.2) f.3) in
      let one = same_own catalog J C f.0 i other.0 rec.0 other.1 rec.1 f.2 tx other.2 rec.2 f.4 in
      let place : f.1 ≡ p = one_shortest catalog i (J i) tx.start f.1 p
      (subst (λ k. is_shortest catalog k (J k) tx.start f.1 ≡ true) one.0
      (subst (λ (z : Tx). is_shortest catalog f.0 (J f.0) z.start f.1 ≡ true) one.3 other.3)) rec.3 in
      not_yet left done taken S i (Starts p tx) rest next
      (subst (λ (t : Taken). Contains done t) (λ t. (one.0 t, Starts (place t) (one.3 t))) f.3) in
      let pushed : history J (done ++ (i, Starts p tx) ∷ []) ≡ h ++ Start tx.tid i ∷ [] = history_push J done (i, Starts p tx) in
      record {
        legal = subst (λ all. IsLegal all) (sym pushed) (legal_snoc h (Start tx.tid i) S.legal (site, fresh));
        snapshots = λ k q y c. elim (Contains-push_cases done (i, Starts p tx) (k, Starts q y) c) [
          | inl was ↦ ap (λ all. snapshot y.tid all) pushed
              ∙ (snapshot_kept y.tid h (Start tx.tid i ∷ []) (starts_here J done k q y was) ∙ S.snapshots k q y was)
          | inr new ↦
              let same_site_ : i ≡ k = ap (λ (t : Taken). t.0) new in
              let item : Starts p tx ≡ Starts q y = ap (λ (t : Taken). t.1) new in
              let place : p ≡ q = cc in
              let same : tx ≡ y = cc in
              let now : snapshot tx.tid (history J (done ++ (i, Starts p tx) ∷ [])) ≡ tids_to J i p =
              ap (λ all. snapshot tx.tid all) pushed
              ∙ (snapshot_here tx.tid i h [] fresh ∙ (ap (λ z. log z h) site
              ∙ here_log left done taken S i (Starts p tx) rest next)) in
              subst (λ (z : Tx). snapshot z.tid (history J (done ++ (i, Starts p tx) ∷ [])) ≡ tids_to J k q) same
              (now ∙ (λ t. tids_to J (same_site_ t) (place t)))
        ];
        arrivals = λ k q j seq c. elim (Contains-push_cases done (i, Starts p tx) (k, Arrives q j seq) c) [
          | inl was ↦ let a = S.arrivals k q j seq was in
              (a.0, a.1, Contains-append_left done ((i, Starts p tx) ∷ []) (j, Commits a.0 seq a.1) a.2)
          | inr new ↦ absurd (let item : Starts p tx ≡ Arrives q j seq = ap (λ (t : Taken). t.1) new in cc)
        ];
      }

  -- what a transaction that commits has seen of another that was taken, whose updates conflict
  not_unseen : (left : SiteId → List Item) (done : List Taken) (taken : AreTaken (items_of catalog J) left done)
      → IsSpelled J done → (i : SiteId) (p seq : ℕ) (tx : Tx) (rest : List Item) → left i ≡ Commits p seq tx ∷ rest
      → (k : SiteId) (q m : ℕ) (y : Tx) → Contains done (k, Commits q m y) → entry_at y.start i < seq
  not_unseen left done taken S i p seq tx rest next k q m y was = elim (low_or (entry_at y.start i) seq) [
    | inl unseen ↦ unseen
    | inr seen ↦ absurd (
        let own = commit_here in
        let s = start_taken left done taken k q m y was in
        let entry = start_entry catalog J C k s.0 y.start s.2 i p (Own seq tx) own in
        let number = own_number catalog i (J i) (C.follow i) p seq tx own in
        let stands = counted_stands catalog k (J k) (C.follow k) i seq s.0 (omega (arith, number)) (omega (arith, seen, entry)) in
        by s.0 s.1 stands.0 stands.1 stands.2 stands.3 stands.4)
  ]
    where
      commit_here : slice_get (J i) p ≡ Some (Own seq tx)
      commit_here = elim (item_recorded catalog i (J i) (Commits p seq tx)
          (in_items left done taken S i (Commits p seq tx) rest next)) [
            | inl of ↦ of
            | inr start ↦ absurd (let e : Commits p seq tx ≡ Starts start.0 start.2 = start.5 in cc)
          ]

      next_left : Contains (left i) (Commits p seq tx)
      next_left = subst (λ xs. Contains xs (Commits p seq tx)) (sym next) (first_in (Commits p seq tx) rest)

      by : (b : ℕ) → b ≤ q → (r : ℕ) (rec : Record) → r < b → slice_get (J k) r ≡ Some rec → DoesCommit k i seq rec → ⊥
      by b low r (Own n z) before at does =
          let there : slice_get (J i) r ≡ Some (Own seq z) = (λ t. slice_get (J (sym does.0 t)) r) ∙ (at ∙ ap (λ w. Some (Own w z)) does.1) in
          let place = own_place catalog i (J i) (C.follow i) r p seq z tx there commit_here in
          let left_there : Contains (left k) (Commits p seq tx) = subst (λ s. Contains (left s) (Commits p seq tx)) (sym does.0) next_left in
          let after : q < p = behind left done taken k (Commits q m y) (Commits p seq tx) was left_there in
          omega (arith, after, low, before, place)
      by b low r (Seen j n) before at does =
          let here : slice_get (J k) r ≡ Some (Seen i seq) = at ∙ (λ t. Some (Seen (does.0 t) (does.1 t))) in
          elim (done_or_left left done taken k (Arrives r i seq) (Rattle.walter_audit.proofs.Items.arrival_item catalog k (J k) r i seq here)) [
            | inl came ↦
                let a = S.arrivals k r i seq came in
                let own = committed_record left done taken i a.0 seq a.1 a.2 in
                let place = own_place catalog i (J i) (C.follow i) a.0 p seq a.1 tx own commit_here in
                let e : Own seq a.1 ≡ Own seq tx = same_Some (Own seq a.1) (Own seq tx) (sym own ∙ (ap (λ n. slice_get (J i) n) place ∙ commit_here)) in
                let same : a.1 ≡ tx = cc in
                not_yet left done taken S i (Commits p seq tx) rest next
                (subst (λ (t : Taken). Contains done t) (λ t. (i, Commits (place t) seq (same t))) a.2)
            | inr waits ↦ let after : q < r = behind left done taken k (Commits q m y) (Arrives r i seq) was waits in
                omega (arith, after, low, before)
          ]
      by b low r (Boot epoch) before at does = absurd does
      by b low r (Got j n z) before at does = absurd does
      by b low r (Prepared j n tid objects) before at does = absurd does
      by b low r (Released j n) before at does = absurd does
      by b low r (SlowBegin n z) before at does = absurd does
      by b low r (SlowEnd n) before at does = absurd does
      by b low r (Marks d v) before at does = absurd does
      by b low r FormatRecord before at does = absurd does

  -- a commit
  commit_step : (left : SiteId → List Item) (done : List Taken) (taken : AreTaken (items_of catalog J) left done)
      → IsSpelled J done → (i : SiteId) (p seq : ℕ) (tx : Tx) (rest : List Item) → left i ≡ Commits p seq tx ∷ rest
      → IsSpelled J (done ++ (i, Commits p seq tx) ∷ [])
  commit_step left done taken S i p seq tx rest next =
      let h : List Step = history J done in
      let x : Tid = tx.tid in
      let us : List Update = tx.updates in
      let own : slice_get (J i) p ≡ Some (Own seq tx) = elim (item_recorded catalog i (J i) (Commits p seq tx)
      (in_items left done taken S i (Commits p seq tx) rest next)) [
        | inl of ↦ of
        | inr start ↦ absurd (let e : Commits p seq tx ≡ Starts start.0 start.2 = start.5 in cc)
      ] in
      let b = begins_at catalog J C i p seq tx own in
      let next_left : Contains (left i) (Commits p seq tx) = subst (λ xs. Contains xs (Commits p seq tx)) (sym next)
      (first_in (Commits p seq tx) rest) in
      let start : Contains done (i, Starts b.0 tx) = elim (done_or_left left done taken i (Starts b.0 tx) b.4) [
        | inl is ↦ is
        | inr is ↦ absurd (
            let in_rest : Contains (Commits p seq tx ∷ rest) (Starts b.0 tx) = subst (λ xs. Contains xs (Starts b.0 tx)) next is in
            elim (in_cases (Commits p seq tx) rest (Starts b.0 tx) in_rest) [
              | inl same ↦ cc
              | inr later ↦
                  let sorted = subst (λ xs. Rattle.walter_audit.proofs.Sorted.AreSorted xs)
                  (cut_here left done taken S i (Commits p seq tx) rest next
                  ∙ sym (append_assoc (taken_of i done) (Commits p seq tx ∷ []) rest)) (items_sorted catalog i (J i)) in
                  let l = sorted_cut (taken_of i done ++ Commits p seq tx ∷ []) rest sorted (Commits p seq tx) (Starts b.0 tx)
                  (Contains-append_right (taken_of i done) (Commits p seq tx ∷ []) (Commits p seq tx) (first_in (Commits p seq tx) [])) later in
                  let m = b.1 in omega (arith, l, m)
            ])
      ] in
      let started = starts_here J done i b.0 tx start in
      let uncommitted : ¬ IsCommitted x h = λ committed.
      let f = committed_from J done x committed in
      let other = committed_record left done taken f.0 f.1 f.2 f.3 f.4 in
      let one = same_own catalog J C f.0 i f.1 p f.2 seq f.3 tx other own f.5 in
      not_yet left done taken S i (Commits p seq tx) rest next
      (subst (λ (t : Taken). Contains done t) (λ t. (one.0 t, Commits (one.1 t) (one.2 t) (one.3 t))) f.4) in
      let running : IsRunning x h = (
        started,
        λ over. elim over [ inl committed ↦ uncommitted committed | inr aborted ↦ no_abort J done x aborted.0 aborted.1 ],
      ) in
      let ops : List Step = map (λ u. Op x u) us in
      let then_ = ops_legal x us h S.legal running in
      let did_own : own_updates x (h ++ ops) ≡ us = flat_map-append (did x) h ops
      ∙ ((λ t. (did_what_committed J done x ∙ none_committed x h uncommitted) t ++ ops_done x us t)) in
      let free : ¬ IsBlocked x us (h ++ ops) = λ blocked.
      let y : Tid = blocked.0 in
      let before : IsCommitted y h = (blocked.1.0, before_ops x us h (Commit y blocked.1.0) (λ u e. cc) blocked.1.1) in
      let f = committed_from J done y before in
      let z : Tx = f.3 in
      let other = committed_record left done taken f.0 f.1 f.2 z f.4 in
      let stands : Contains (h ++ ops) (Commit y z.updates) = Contains-append_left h ops (Commit y z.updates)
      (subst (λ w. Contains h (Commit w z.updates)) f.5 (commit_stands J done f.0 f.1 f.2 z f.4)) in
      let gave : committed_updates (h ++ ops) y ≡ z.updates = committed_updates_of y z.updates (h ++ ops) then_.0 stands in
      let conflict : DoConflict us z.updates = (
      let c = subst (λ vs. DoConflict vs us) gave blocked.3 in (c.0, c.2, c.1)
      ) in
      let first : Named = record { site = i; index = p } in
      let second : Named = record { site = f.0; index = f.1 } in
      let apart : first ≢ second = λ e. blocked.2 (
      let there : slice_get (J i) p ≡ Some (Own f.2 z) = ap (λ (n : Named). slice_get (J n.site) n.index) e ∙ other in
      let same : Own seq tx ≡ Own f.2 z = same_Some (Own seq tx) (Own f.2 z) (sym own ∙ there) in
      let txs : tx ≡ z = cc in
      sym f.5 ∙ ap (λ (w : Tx). w.tid) (sym txs)
      ) in
      let unseen = not_unseen left done taken S i p seq tx rest next f.0 f.1 f.2 z f.4 in
      elim (low_or (entry_at tx.start f.0) f.2) [
        | inl other_unseen ↦ unordered first second (record {
          owns = record { seq = seq; other = f.2; x = tx; y = z; first = own; second = other; apart = apart };
          conflict = conflict;
          first_unseen = unseen;
          second_unseen = other_unseen;
        })
        | inr seen ↦
            let entry = start_entry catalog J C i b.0 tx.start b.3 f.0 f.1 (Own f.2 z) other in
            let within = in_tids catalog J C i f.0 b.0 f.1 f.2 z other (omega (arith, seen, entry)) in
            let snap : snapshot x (h ++ ops) ≡ tids_to J i b.0 = snapshot_kept x h ops started ∙ S.snapshots i b.0 tx start in
            blocked.4 (subst (λ xs. Contains xs y) (sym snap) (subst (λ w. Contains (tids_to J i b.0) w) f.5 within))
      ] in
      let untold : ¬ Contains (h ++ ops) (Told x (OfLevel NotCommitted)) = λ c.
      no_notice J done x (OfLevel NotCommitted) (before_ops x us h (Told x (OfLevel NotCommitted)) (λ u e. cc) c) in
      let legal_then : IsLegal ((h ++ ops) ++ Commit x us ∷ []) = legal_snoc (h ++ ops) (Commit x us) then_.0 (record {
        running = then_.1;
        some = some i p seq tx own;
        own = sym did_own;
        free = free;
        final = untold;
      }) in
      let pushed : history J (done ++ (i, Commits p seq tx) ∷ []) ≡ h ++ (ops ++ Commit x us ∷ []) = history_push J done (i, Commits p seq tx) in
      record {
        legal = subst (λ all. IsLegal all) (sym (pushed ∙ sym (append_assoc h ops (Commit x us ∷ [])))) legal_then;
        snapshots = λ k q y c. elim (Contains-push_cases done (i, Commits p seq tx) (k, Starts q y) c) [
          | inl was ↦ ap (λ all. snapshot y.tid all) pushed
              ∙ (snapshot_kept y.tid h (ops ++ Commit x us ∷ []) (starts_here J done k q y was) ∙ S.snapshots k q y was)
          | inr new ↦ absurd (let item : Commits p seq tx ≡ Starts q y = ap (λ (t : Taken). t.1) new in cc)
        ];
        arrivals = λ k q j n c. elim (Contains-push_cases done (i, Commits p seq tx) (k, Arrives q j n) c) [
          | inl was ↦ let a = S.arrivals k q j n was in
              (a.0, a.1, Contains-append_left done ((i, Commits p seq tx) ∷ []) (j, Commits a.0 n a.1) a.2)
          | inr new ↦ absurd (let item : Commits p seq tx ≡ Arrives q j n = ap (λ (t : Taken). t.1) new in cc)
        ];
      }

  -- an arrival
  arrive_step : (left : SiteId → List Item) (done : List Taken) (taken : AreTaken (items_of catalog J) left done)
      → IsSpelled J done → (i : SiteId) (p : ℕ) (j : SiteId) (seq : ℕ) (rest : List Item) → left i ≡ Arrives p j seq ∷ rest
      → CanGo done (Arrives p j seq) → IsSpelled J (done ++ (i, Arrives p j seq) ∷ [])
  arrive_step left done taken S i p j seq rest next go =
      let h : List Step = history J done in
      let at : ℕ = go.0 in
      let y : Tx = go.1 in
      let own = committed_record left done taken j at seq y go.2 in
      let seen : slice_get (J i) p ≡ Some (Seen j seq) = arrival_recorded catalog i (J i) p j seq
      (in_items left done taken S i (Arrives p j seq) rest next) in
      let found : own_at J j seq ≡ Some y = own_found catalog j (J j) (C.follow j) J refl at seq y own in
      let site : y.tid.site ≡ j = own_here catalog j (J j) (C.follow j) at seq y own in
      let apart : j ≢ i = (seen_there catalog i (J i) (C.follow i) p j seq seen).0 in
      let logged : log i h ≡ tids_to J i p = here_log left done taken S i (Arrives p j seq) rest next in
      let fresh : ¬ Contains (log i h) y.tid = λ c.
      let t = from_tids catalog J C i p y.tid (subst (λ xs. Contains xs y.tid) logged c) in
      let one = same_own catalog J C t.0 j t.1 at t.2 seq t.3 y t.5 own t.6 in
      elim t.8 [
        | inl mine ↦ apart (sym site ∙ (sym (ap (λ (x : Tid). x.site) t.6)
            ∙ own_here catalog i (J i) (C.follow i) t.4 t.2 t.3 mine))
        | inr earlier ↦
            let there : slice_get (J i) t.4 ≡ Some (Seen j seq) = earlier ∙ (λ u. Some (Seen (one.0 u) (one.2 u))) in
            let place = seen_place catalog i (J i) (C.follow i) t.4 p j seq there seen in
            let l = t.7 in omega (arith, l, place)
      ] in
      let s = start_taken left done taken j at seq y go.2 in
      let snap : snapshot y.tid h ≡ tids_to J j s.0 = S.snapshots j s.0 y s.3 in
      let causal : All (λ w. Contains (log i h) w) (snapshot y.tid h) = all_of (λ w. Contains (log i h) w) (snapshot y.tid h)
      (λ w c.
      let t = from_tids catalog J C j s.0 w (subst (λ xs. Contains xs w) snap c) in
      let entry = start_entry catalog J C j s.0 y.start s.2 t.0 t.1 (Own t.2 t.3) t.5 in
      let covered = seen_covered catalog J C i j p at seq y seen own t.0 in
      let low = t.9 in
      subst (λ xs. Contains xs w) (sym logged)
      (subst (λ v. Contains (tids_to J i p) v) t.6
      (in_tids catalog J C i t.0 p t.1 t.2 t.3 t.5 (omega (arith, entry, covered, low))))) in
      let pushed : history J (done ++ (i, Arrives p j seq) ∷ []) ≡ h ++ Arrive y.tid i ∷ [] =
      history_push J done (i, Arrives p j seq) ∙ ap (λ o. h ++ arrived i o) found in
      record {
        legal = subst (λ all. IsLegal all) (sym pushed) (legal_snoc h (Arrive y.tid i) S.legal (record {
          committed = (y.updates, commit_stands J done j at seq y go.2);
          elsewhere = λ e. apart (sym site ∙ sym e);
          new = fresh;
          causal = causal;
        }));
        snapshots = λ k q z c. elim (Contains-push_cases done (i, Arrives p j seq) (k, Starts q z) c) [
          | inl was ↦ ap (λ all. snapshot z.tid all) pushed
              ∙ (snapshot_kept z.tid h (Arrive y.tid i ∷ []) (starts_here J done k q z was) ∙ S.snapshots k q z was)
          | inr new ↦ absurd (let item : Arrives p j seq ≡ Starts q z = ap (λ (t : Taken). t.1) new in cc)
        ];
        arrivals = λ k q l n c. elim (Contains-push_cases done (i, Arrives p j seq) (k, Arrives q l n) c) [
          | inl was ↦ let a = S.arrivals k q l n was in
              (a.0, a.1, Contains-append_left done ((i, Arrives p j seq) ∷ []) (l, Commits a.0 n a.1) a.2)
          | inr new ↦
              let item : Arrives p j seq ≡ Arrives q l n = ap (λ (t : Taken). t.1) new in
              let from : j ≡ l = cc in
              let number : seq ≡ n = cc in (
                at,
                y,
                Contains-append_left done ((i, Arrives p j seq) ∷ []) (l, Commits at n y)
                    (subst (λ (t : Taken). Contains done t) (λ u. (from u, Commits at (number u) y)) go.2),
              )
        ];
      }

  step : (left : SiteId → List Item) (done : List Taken) (taken : AreTaken (items_of catalog J) left done)
      → IsSpelled J done → (i : SiteId) (item : Item) (rest : List Item) → left i ≡ item ∷ rest
      → CanGo done item → IsSpelled J (done ++ (i, item) ∷ [])
  step left done taken S i (Starts p tx) rest next go = start_step left done taken S i p tx rest next
  step left done taken S i (Commits p seq tx) rest next go = commit_step left done taken S i p seq tx rest next
  step left done taken S i (Arrives p j seq) rest next go = arrive_step left done taken S i p j seq rest next go

  -- what was taken, in whichever order, is spelled
  pub spelled : (left : SiteId → List Item) (done : List Taken) → AreTaken (items_of catalog J) left done → IsSpelled J done
  spelled left done (none_taken) = record {
    legal = λ place s at. absurd cc;
    snapshots = λ i p tx c. absurd (Contains-nil (i, Starts p tx) c);
    arrivals = λ i p j seq c. absurd (Contains-nil (i, Arrives p j seq) c);
  }
  spelled left2 done2 (takes left done i item rest before is go least) =
      step left done before (spelled left done before) i item rest is go
