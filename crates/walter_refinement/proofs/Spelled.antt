-- What the history that a run spells has to do with what the sites know.
use Rattle.std.proofs.Common.{◌≡◌, ◌≢◌, ℕ, ◌<◌, ◌≤◌, List, [], ◌∷◌, ◌++◌, length, map, take, ap, sym, ◌∙◌, subst, arith, slice_get, Some, true, inl, inr, ◌⊎◌, if◌then◌else◌}
use Rattle.std.specs.Prelude.{Contains, Option}
use Rattle.std.proofs.lemmas.List.{append-nil, map-append}
use Rattle.std.proofs.lemmas.List.Elements.{Contains-push_cases}
use Rattle.std.proofs.lemmas.Option.{slice_get_within}
use Rattle.walter_base.specs.declared.names.SiteId.{SiteId}
use Rattle.walter_base.specs.declared.names.Tid.{Tid}
use Rattle.walter_base.specs.declared.transaction.Cause.{Cause}
use Rattle.walter_base.specs.declared.update.Update.{Update}
use Rattle.walter_base.specs.Names.{same_site}
use Rattle.walter_base.specs.Vectors.{entry_at}
use Rattle.walter_base.proofs.NameTests.{same_site_refl}
use Rattle.walter_psi.specs.declared.step.Level.TheVariants.{NotCommitted}
use Rattle.walter_psi.specs.declared.step.Notice.TheVariants.{Level as OfLevel}
use Rattle.walter_psi.specs.declared.step.Step.{Step}
use Rattle.walter_psi.specs.declared.step.Step.TheVariants.{Commit, Abort, Told}
use Rattle.walter_psi.specs.Histories.{log, logged, snapshot, done, own_updates, committed_updates, IsStarted, IsCommitted}
use Rattle.walter_psi.specs.Legal.{IsLegal, IsOver}
use Rattle.walter_psi.proofs.Lists.{place_of, contains_at, slice_get-take, slice_get-take_within}
use Rattle.walter_psi.proofs.StepFacts.{given_none}
use Rattle.walter_psi.proofs.OneMore.{log_snoc, own_updates_snoc, committed_updates_snoc, started_kept, committed_kept, committed_snoc}
use Rattle.walter_psi.proofs.Snapshots.{snapshot_kept}
use Rattle.walter_psi.proofs.LegalFacts.{committed_started}
use Rattle.walter_rules.specs.declared.held.Held.{Held}
use Rattle.walter_rules.specs.Sessions.{Session}
use Rattle.walter_agreement.proofs.Lists.{IsPrefix, prefix_length, prefix_take, filter_push_kept, filter_push_left, filter_place, place_filtered, map_place, place_mapped, take_push}
use Rattle.walter_agreement.proofs.Issued.{Issued, IsIssued}
use Rattle.walter_refinement.proofs.SameReads.{by}
use Rattle.walter_agreement.proofs.Cases.{site_cases}
use Rattle.walter_agreement.proofs.Numbers.{IsCounted}

-- the transaction's name, and its updates
abbrev pub tid_of : Held → Tid
tid_of r = r.tx.tid

abbrev pub updates_of : Held → List Update
updates_of r = r.tx.updates

-- whose a session is: a client's of the site, by its number and one; or nobody's, 0: its commit is in flight
pub record Key : Type 0 where
  pub site : SiteId
  pub who : ℕ

-- the list is what the vector sees: of each site the first own commits, as many as the vector says
abbrev pub Sees : (SiteId → List Held) → (SiteId → ℕ) → List Tid → Type 0
Sees owns v xs = (k : SiteId) → (by k xs ≡ map tid_of (take (v k) (owns k))) × (v k ≤ length (owns k))

-- a committed transaction is as its site holds it
pub record IsKept (owns : SiteId → List Held) (h : List Step) (r : Held) : Type 0 where
  pub started : IsStarted r.tx.tid h
  pub same : committed_updates h r.tx.tid ≡ r.tx.updates
  pub seen : Sees owns (λ k. entry_at r.tx.start k) (snapshot r.tx.tid h)

-- an open transaction is as its session says
pub record IsLive (owns : SiteId → List Held) (counts : SiteId → SiteId → ℕ) (h : List Step)
    (s : Session) : Type 0 where
  pub started : IsStarted s.tid h
  pub running : ¬ IsOver s.tid h
  pub same : own_updates s.tid h ≡ s.updates
  pub seen : Sees owns (λ k. entry_at s.snapshot k) (snapshot s.tid h)
  pub below : (k : SiteId) → entry_at s.snapshot k ≤ counts s.tid.site k

-- the transaction of a session is committed, or open
abbrev pub IsDoneOrLive : (SiteId → List Held) → (SiteId → SiteId → ℕ) → List Step → Session → Type 0
IsDoneOrLive owns counts h s = IsCommitted s.tid h ⊎ IsLive owns counts h s

-- the history is what the sites say: their own commits, what is committed where, the names they gave, the sessions they
-- hold, and which of these have lost their commit
pub record IsSpelledAt (owns : SiteId → List Held) (counts : SiteId → SiteId → ℕ) (numbers : SiteId → Issued)
    (sessions : Key → Option Session) (spent : Key → Type 0) (h : List Step) : Type 0 where
  pub legal : IsLegal h
  -- the log of a site is what its committed vector sees
  pub logs : (i : SiteId) → Sees owns (counts i) (log i h)
  pub kept : (k : SiteId) (p : ℕ) (r : Held) → slice_get (owns k) p ≡ Some r → IsKept owns h r
  -- no transaction commits twice
  pub once : (k : SiteId) (p q : ℕ) (r s : Held) → slice_get (owns k) p ≡ Some r → slice_get (owns k) q ≡ Some s
      → r.tx.tid ≡ s.tx.tid → p ≡ q
  pub live : (c : Key) (s : Session) → sessions c ≡ Some s → IsDoneOrLive owns counts h s
  -- two keys have two transactions, each of its site
  pub alone : (c d : Key) (s t : Session) → sessions c ≡ Some s → sessions d ≡ Some t → s.tid ≡ t.tid → c ≡ d
  pub home : (c : Key) (s : Session) → sessions c ≡ Some s → s.tid.site ≡ c.site
  pub begun : (x : Tid) → IsStarted x h → IsIssued (numbers x.site) x
  -- what was told as not committed can't commit: a session that has it has lost its commit
  pub denied : (x : Tid) → Contains h (Told x (OfLevel NotCommitted))
      → IsIssued (numbers x.site) x × ((c : Key) (s : Session) → sessions c ≡ Some s → s.tid ≡ x → spent c)

-- the same own commits and counts spell the history
pub spelled_same : (owns more : SiteId → List Held) (counts higher : SiteId → SiteId → ℕ) (numbers : SiteId → Issued)
    (sessions : Key → Option Session) (spent : Key → Type 0) (h : List Step)
    → ((k : SiteId) → more k ≡ owns k) → ((i k : SiteId) → higher i k ≡ counts i k)
    → IsSpelledAt owns counts numbers sessions spent h → IsSpelledAt more higher numbers sessions spent h
spelled_same owns more counts higher numbers sessions spent h same_owns same_counts sp =
    let first : owns ≡ more = (λ t k. sym (same_owns k) t) in
    let second : counts ≡ higher = (λ t i k. sym (same_counts i k) t) in
    subst (λ f. IsSpelledAt f higher numbers sessions spent h) first
    (subst (λ f. IsSpelledAt owns f numbers sessions spent h) second sp)

-- what a vector sees is seen by one with the same entries
pub sees_same : (owns : SiteId → List Held) (v w : SiteId → ℕ) (xs : List Tid) → ((k : SiteId) → w k ≡ v k)
    → Sees owns v xs → Sees owns w xs
sees_same owns v w xs same h k =
    let l = (h k).1 in
    let e = same k in
    ((h k).0 ∙ ap (λ n. map tid_of (take n (owns k))) (sym e), omega (arith, l, e))

-- what a vector sees stays, as commits come
pub sees_grow : (owns more : SiteId → List Held) (v : SiteId → ℕ) (xs : List Tid)
    → ((k : SiteId) → IsPrefix (owns k) (more k)) → Sees owns v xs → Sees more v xs
sees_grow owns more v xs grow h k =
    let l : v k ≤ length (owns k) = (h k).1 in (
      (h k).0 ∙ ap (λ t. map tid_of t) (sym (prefix_take (owns k) (more k) (v k) (grow k) l)),
      let m =
          prefix_length (owns k) (more k) (grow k) in omega (arith, l, m),
    )

-- a transaction in a list stands among those of its site there, and the other way round
pub in_by : (xs : List Tid) (y : Tid) → Contains xs y → (q : ℕ) × (slice_get (by y.site xs) q ≡ Some y)
in_by xs y c =
    let p = place_of xs y c in (
      length (by y.site (take p.0 xs)),
      place_filtered (λ (x : Tid). same_site x.site y.site) xs y p.0 p.1
          (same_site_refl y.site),
    )

pub by_in : (k : SiteId) (xs : List Tid) (y : Tid) (q : ℕ) → slice_get (by k xs) q ≡ Some y → Contains xs y
by_in k xs y q h = let r = filter_place (λ (x : Tid). same_site x.site k) xs y q h in contains_at xs y r.0 r.1

-- an own commit of the transaction, that the vector sees
pub record IsSeenRow (owns : SiteId → List Held) (v : SiteId → ℕ) (y : Tid) : Type 0 where
  pub place : ℕ
  pub row : Held
  pub below : place < v y.site
  pub here : slice_get (owns y.site) place ≡ Some row
  pub is : row.tx.tid ≡ y

-- what is in the list is an own commit that the vector sees
pub seen_row : (owns : SiteId → List Held) (v : SiteId → ℕ) (xs : List Tid) (y : Tid) → Sees owns v xs → Contains xs y
    → IsSeenRow owns v y
seen_row owns v xs y h c =
    let q = in_by xs y c in
    let m =
    map_place tid_of (take (v y.site) (owns y.site)) y q.0 (ap (λ t. slice_get t q.0) (sym (h y.site).0) ∙ q.1) in
    let l = slice_get-take_within (owns y.site) (v y.site) q.0 m.0 m.1 in
    record {
      place = q.0;
      row = m.0;
      below = l;
      here = sym (slice_get-take (owns y.site) (v y.site) q.0 l) ∙ m.1;
      is =
          m.2;
    }

-- an own commit that the vector sees is in the list
pub row_seen : (owns : SiteId → List Held) (v : SiteId → ℕ) (xs : List Tid) (k : SiteId) (q : ℕ) (r : Held)
    → Sees owns v xs → q < v k → slice_get (owns k) q ≡ Some r → slice_get (by k xs) q ≡ Some r.tx.tid
row_seen owns v xs k q r h l here =
    ap (λ t. slice_get t q) (h k).0
    ∙ place_mapped tid_of (take (v k) (owns k)) r q (slice_get-take (owns k) (v k) q l ∙ here)

-- one more step that doesn't commit it leaves what is known of a committed transaction
pub kept_step : (owns : SiteId → List Held) (h : List Step) (r : Held) (step : Step) → IsKept owns h r
    → ((us : List Update) → step ≢ Commit r.tx.tid us) → IsKept owns (h ++ step ∷ []) r
kept_step owns h r step k none = record {
  started = started_kept r.tx.tid h (step ∷ []) k.started;
  same =
      committed_updates_snoc r.tx.tid h step
      ∙ (ap (λ t. committed_updates h r.tx.tid ++ t) (given_none r.tx.tid step none)
      ∙ (append-nil (committed_updates h r.tx.tid) ∙ k.same));
  seen =
      subst (λ t. Sees owns (λ j. entry_at r.tx.start j) t)
      (sym (snapshot_kept r.tx.tid h (step ∷ []) k.started)) k.seen;
}

-- so do commits that come
pub kept_grow : (owns more : SiteId → List Held) (h : List Step) (r : Held)
    → ((k : SiteId) → IsPrefix (owns k) (more k)) → IsKept owns h r → IsKept more h r
kept_grow owns more h r grow k =
    record {
      started = k.started;
      same = k.same;
      seen = sees_grow owns more (λ j. entry_at r.tx.start j)
          (snapshot r.tx.tid h) grow k.seen;
    }

-- a step does nothing for a transaction, nor ends it
pub record IsAside (x : Tid) (step : Step) : Type 0 where
  pub none_done : done x step ≡ []
  pub no_commit : (us : List Update) → step ≢ Commit x us
  pub no_abort : (cause : Cause) → step ≢ Abort x cause

-- one more step that doesn't end it leaves a transaction open
pub open_step : (x : Tid) (h : List Step) (step : Step) → ((us : List Update) → step ≢ Commit x us)
    → ((cause : Cause) → step ≢ Abort x cause) → ¬ IsOver x h → ¬ IsOver x (h ++ step ∷ [])
open_step x h step no_commit no_abort o (inl c) =
    elim ((committed_snoc x h step).0 c) [
      | inl old ↦ o (inl old)
      | inr new ↦ no_commit new.0 new.1
    ]
open_step x h step no_commit no_abort o (inr a) =
    elim (Contains-push_cases h step (Abort x a.0) a.1) [
      | inl old ↦ o (inr (a.0, old))
      | inr new ↦ no_abort a.0 new
    ]

-- what an open transaction sees stays
pub seen_step : (owns : SiteId → List Held) (counts : SiteId → SiteId → ℕ) (h : List Step) (s : Session) (step : Step)
    → IsLive owns counts h s → Sees owns (λ k. entry_at s.snapshot k) (snapshot s.tid (h ++ step ∷ []))
seen_step owns counts h s step l =
    subst (λ t. Sees owns (λ j. entry_at s.snapshot j) t) (sym (snapshot_kept s.tid h (step ∷ []) l.started)) l.seen

-- one more step that leaves it aside leaves what is known of an open transaction
pub live_step : (owns : SiteId → List Held) (counts : SiteId → SiteId → ℕ) (h : List Step) (s : Session) (step : Step)
    → IsLive owns counts h s → IsAside s.tid step → IsLive owns counts (h ++ step ∷ []) s
live_step owns counts h s step l a = record {
  started = started_kept s.tid h (step ∷ []) l.started;
  running = open_step s.tid h step a.no_commit a.no_abort l.running;
  same =
      own_updates_snoc s.tid h step
      ∙ (ap (λ t. own_updates s.tid h ++ t) a.none_done ∙ (append-nil (own_updates s.tid h) ∙ l.same));
  seen = seen_step owns counts h s step l;
  below = l.below;
}

-- so do commits that come, and counts that rise
pub live_grow : (owns more : SiteId → List Held) (counts higher : SiteId → SiteId → ℕ) (h : List Step) (s : Session)
    → ((k : SiteId) → IsPrefix (owns k) (more k)) → ((i k : SiteId) → counts i k ≤ higher i k)
    → IsLive owns counts h s → IsLive more higher h s
live_grow owns more counts higher h s grow rise l = record {
  started = l.started;
  running = l.running;
  same = l.same;
  seen = sees_grow owns more (λ j. entry_at s.snapshot j) (snapshot s.tid h) grow l.seen;
  below = λ k. let a = l.below k in let b = rise s.tid.site k in omega (arith, a, b);
}

-- a transaction that is committed or open is so after a step that leaves it aside
pub done_or_live_step : (owns : SiteId → List Held) (counts : SiteId → SiteId → ℕ) (h : List Step) (s : Session)
    (step : Step)
    → IsDoneOrLive owns counts h s → IsAside s.tid step → IsDoneOrLive owns counts (h ++ step ∷ []) s
done_or_live_step owns counts h s step (inl committed) a = inl (committed_kept s.tid h (step ∷ []) committed)
done_or_live_step owns counts h s step (inr l) a = inr (live_step owns counts h s step l a)

-- after commits that come
pub done_or_live_grow : (owns more : SiteId → List Held) (counts higher : SiteId → SiteId → ℕ) (h : List Step)
    (s : Session)
    → ((k : SiteId) → IsPrefix (owns k) (more k)) → ((i k : SiteId) → counts i k ≤ higher i k)
    → IsDoneOrLive owns counts h s → IsDoneOrLive more higher h s
done_or_live_grow owns more counts higher h s grow rise (inl committed) = inl committed
done_or_live_grow owns more counts higher h s grow rise (inr l) =
    inr (live_grow owns more counts higher h s grow rise l)

-- either way it is started
pub session_started : (owns : SiteId → List Held) (counts : SiteId → SiteId → ℕ) (h : List Step) (s : Session)
    → IsLegal h → IsDoneOrLive owns counts h s → IsStarted s.tid h
session_started owns counts h s legal (inl committed) = committed_started s.tid h legal committed
session_started owns counts h s legal (inr l) = l.started

-- a step that makes nothing stand anywhere leaves the logs
pub log_quiet : (i : SiteId) (h : List Step) (step : Step) → logged i step ≡ [] → log i (h ++ step ∷ []) ≡ log i h
log_quiet i h step none = log_snoc i h step ∙ (ap (λ t. log i h ++ t) none ∙ append-nil (log i h))

-- a log after a commit or an arrival is what the risen vector sees
pub logs_step : (owns more : SiteId → List Held) (counts higher : SiteId → SiteId → ℕ) (h : List Step) (step : Step)
    (s : SiteId) (r : Held)
    → ((k : SiteId) → IsPrefix (owns k) (more k)) → IsCounted counts higher s r.tx.tid.site
    → slice_get (more r.tx.tid.site) (counts s r.tx.tid.site) ≡ Some r
    → ((i : SiteId) → logged i step ≡ (if same_site s i then r.tx.tid ∷ [] else []))
    → ((i : SiteId) → Sees owns (counts i) (log i h)) → (i : SiteId) → Sees more (higher i) (log i (h ++ step ∷ []))
logs_step owns more counts higher h step s r grow c here says before i k =
    let old = sees_grow owns more (counts i) (log i h) grow (before i) k in
    let split : by k (log i (h ++ step ∷ [])) ≡ by k (log i h ++ (if same_site s i then r.tx.tid ∷ [] else [])) =
    ap (λ t. by k t) (log_snoc i h step ∙ ap (λ t. log i h ++ t) (says i)) in
    let unmoved : by k (log i h ++ (if same_site s i then r.tx.tid ∷ [] else [])) ≡ by k (log i h)
    → higher i k ≡ counts i k
    → (by k (log i (h ++ step ∷ [])) ≡ map tid_of (take (higher i k) (more k))) × (higher i k ≤ length (more k)) =
    λ e f.
    (split ∙ (e ∙ (old.0 ∙ ap (λ n. map tid_of (take n (more k))) (sym f))), let l = old.1 in omega (arith, l, f)) in
    elim (c i k) [
      | inl same ↦
          elim (site_cases s i) [
            | inl at_s ↦
                elim (site_cases r.tx.tid.site k) [
                  | inl of_k ↦ absurd (same.0 at_s.1 of_k.1)
                  | inr of_other ↦ unmoved (rw at_s.0
                      (filter_push_left (λ (x : Tid). same_site x.site k) (log i h) r.tx.tid of_other.0)) same.1
                ]
            | inr away ↦ unmoved (rw away.0 (ap (λ t. by k t) (append-nil (log i h)))) same.1
          ]
      | inr one ↦
          let test : same_site s i ≡ true = subst (λ j. same_site s j ≡ true) one.0 (same_site_refl s) in
          let ours : same_site r.tx.tid.site k ≡ true =
          subst (λ j. same_site r.tx.tid.site j ≡ true) one.1 (same_site_refl r.tx.tid.site) in
          let place : slice_get (more k) (counts i k) ≡ Some r =
          subst (λ j. slice_get (more k) (counts j k) ≡ Some r) one.0
          (subst (λ j. slice_get (more j) (counts s j) ≡ Some r) one.1 here) in
          let taken : take (higher i k) (more k) ≡ take (counts i k) (more k) ++ r ∷ [] =
          ap (λ n. take n (more k)) one.2 ∙ take_push (more k) (counts i k) r place in
          let pushed : by k (log i h ++ (if same_site s i then r.tx.tid ∷ [] else [])) ≡ by k (log i h)
          ++ r.tx.tid ∷ [] =
          rw test (filter_push_kept (λ (x : Tid). same_site x.site k) (log i h) r.tx.tid ours) in (
            split
                ∙ (pushed ∙ (ap (λ t. t ++ r.tx.tid ∷ []) old.0
                ∙ (sym (map-append tid_of (take (counts i k) (more k)) (r ∷ []))
                ∙ ap (λ t. map tid_of t) (sym taken)))),
            let w = slice_get_within (more k) (counts i k) r place in omega (arith, w, one.2),
          )
    ]
