-- Of every legal history: no log has a transaction twice; what a transaction's snapshot has stands before it in each
-- log; of two transactions that write one object, one is in the snapshot of the other.
use Rattle.std.proofs.Common.{◌≡◌, ◌≢◌, ℕ, ◌<◌, List, [], ◌∷◌, ◌++◌, length, take, refl, ap, sym, ◌∙◌, subst, arith, slice_get, Some, inl, inr, ◌⊎◌}
use Rattle.std.specs.Prelude.{Contains}
use Rattle.std.proofs.lemmas.List.{append-nil, take_all}
use Rattle.std.proofs.lemmas.List.Elements.{All-contains}
use Rattle.std.proofs.lemmas.Option.{slice_get_within, get_or_from_slice_get}
use Rattle.walter_base.specs.declared.names.ObjId.{ObjId}
use Rattle.walter_base.specs.declared.names.SiteId.{SiteId}
use Rattle.walter_base.specs.declared.names.Tid.{Tid}
use Rattle.walter_base.specs.Values.{write_set}
use Rattle.walter_psi.specs.declared.step.Step.{Step}
use Rattle.walter_psi.specs.declared.step.Step.TheVariants.{Commit, Arrive}
use Rattle.walter_psi.specs.Histories.{log, logged, snapshot, committed_updates, IsStarted}
use Rattle.walter_psi.specs.Legal.{IsLegal, IsLegalStep}
use Rattle.walter_psi.specs.Properties.{CommitsBeforeStart}
use Rattle.walter_psi.proofs.Lists.{contains_at, place_of, slice_get-push_cases, slice_get-append_left}
use Rattle.walter_psi.proofs.StepFacts.{logged_at_most, logged_is}
use Rattle.walter_psi.proofs.OneMore.{legal_same, log_snoc}
use Rattle.walter_psi.proofs.Snapshots.{snapshot_kept, snapshot_logged}
use Rattle.walter_psi.proofs.LegalFacts.{legal_induction, committed_started}
use Rattle.walter_psi.proofs.Logs.{logged_committed, log_distinct}
use Rattle.walter_psi.proofs.TimestampFacts.{commits_at_take, at_logged, snapshot_at}
use Rattle.walter_psi.proofs.WriterFacts.{writers_ordered}

-- a transaction has one place in a log
pub one_place : (h : List Step) (s : SiteId) (p q : ℕ) (x : Tid) → IsLegal h → slice_get (log s h) p ≡ Some x
    → slice_get (log s h) q ≡ Some x → p ≡ q
one_place h s p q x legal one other =
    let no_later = not_before p q one other in
    let no_sooner = not_before q p other one in
    omega arith
  where
    not_before : (a b : ℕ) → slice_get (log s h) a ≡ Some x → slice_get (log s h) b ≡ Some x → ¬ (a < b)
    not_before a b at there l =
        log_distinct s h legal a b x l (slice_get_within (log s h) b x there)
        (get_or_from_slice_get (log s h) a x x at ∙ sym (get_or_from_slice_get (log s h) b x x there))

-- what a step logs at a site has its snapshot in the site's log
sees_logged : (h : List Step) (step : Step) (s : SiteId) (x y : Tid) → IsLegalStep h step → Contains (logged s step) x
    → Contains (snapshot x h) y → Contains (log s h) y
sees_logged h step s x y next here seen =
    elim (logged_is x s step here) [
      | inl commit ↦ subst (λ (k : SiteId). Contains (log k h) y) commit.2 (snapshot_logged x y h seen)
      | inr arrive ↦ All-contains (λ z. Contains (log s h) z) (snapshot x h) y
          (legal_same h step (Arrive x s) arrive next).causal seen
    ]

-- and is started
logged_started : (h : List Step) (step : Step) (s : SiteId) (x : Tid) → IsLegal h → IsLegalStep h step
    → Contains (logged s step) x → IsStarted x h
logged_started h step s x legal next here =
    elim (logged_is x s step here) [
      | inl commit ↦ (legal_same h step (Commit x commit.0) commit.1 next).running.0
      | inr arrive ↦ committed_started x h legal (legal_same h step (Arrive x s) arrive next).committed
    ]

-- what a transaction's snapshot has stands before it in each log
abbrev pub ArriveAfter : List Step → Type 0
ArriveAfter h =
    (s : SiteId) (p : ℕ) (x y : Tid) → slice_get (log s h) p ≡ Some x → Contains (snapshot x h) y → (q : ℕ) × (q < p)
    × (slice_get (log s h) q ≡ Some y)

-- so it is still after one more step
arrive_more : (h : List Step) (step : Step) → IsLegal h → IsLegalStep h step → ArriveAfter h
    → ArriveAfter (h ++ step ∷ [])
arrive_more h step legal next before s p x y at seen =
    let old : slice_get (log s h) p ≡ Some x → (q : ℕ) × (q < p) × (slice_get (log s h) q ≡ Some y) = λ was.
    let started = committed_started x h legal (logged_committed s x h legal (contains_at (log s h) x p was)) in
    before s p x y was (subst (λ t. Contains t y) (snapshot_kept x h (step ∷ []) started) seen) in
    elim (logged_at_most s step) [
      | inl none ↦
          let same : log s (h ++ step ∷ []) ≡ log s h =
          log_snoc s h step ∙ (ap (λ t. log s h ++ t) none ∙ append-nil (log s h)) in
          let r = old (ap (λ t. slice_get t p) (sym same) ∙ at) in
          (r.0, r.1, ap (λ t. slice_get t r.0) same ∙ r.2)
      | inr more ↦
          let now : log s (h ++ step ∷ []) ≡ log s h ++ more.0 ∷ [] =
          log_snoc s h step ∙ ap (λ t. log s h ++ t) more.1 in
          let here : Contains (logged s step) more.0 =
          subst (λ t. Contains t more.0) (sym more.1) (contains_at (more.0 ∷ []) more.0 0 refl) in
          elim (slice_get-push_cases (log s h) more.0 x p (ap (λ t. slice_get t p) (sym now) ∙ at)) [
            | inl was ↦
                let r = old was.1 in
                (r.0, r.1, ap (λ t. slice_get t r.0) now ∙ slice_get-append_left (log s h) (more.0 ∷ []) y r.0 r.2)
            | inr last ↦
                let its : Contains (logged s step) x = subst (λ z. Contains (logged s step) z) last.1 here in
                let started = logged_started h step s x legal next its in
                let inside =
                sees_logged h step s x y next its
                (subst (λ t. Contains t y) (snapshot_kept x h (step ∷ []) started) seen) in
                let r = place_of (log s h) y inside in
                let l = slice_get_within (log s h) r.0 y r.1 in (
                  r.0,
                  omega (arith, l, last.0),
                  ap (λ t. slice_get t r.0) now
                      ∙ slice_get-append_left (log s h) (more.0 ∷ []) y r.0 r.1,
                )
          ]
    ]

-- so it is in every legal history
pub arrive_after : (h : List Step) → IsLegal h → ArriveAfter h
arrive_after =
    legal_induction ArriveAfter (λ s p x y at seen. absurd cc)
    (λ h step legal next before. arrive_more h step legal next before)

-- what commits at the site of another before that starts is in its snapshot
before_start_seen : (h : List Step) (x y : Tid) → IsLegal h → CommitsBeforeStart h x y → Contains (snapshot y h) x
before_start_seen h x y legal first =
    let within = slice_get_within h first.begun _ first.starts in
    let stood =
    at_logged y.site (take first.begun h) x first.place
    (commits_at_take h x y.site first.begun first.place first.before first.commits) in
    let then =
    subst (λ all. Contains all x) (sym (snapshot_at h y first.begun (length h) legal first.starts within)) stood in
    subst (λ all. Contains (snapshot y all) x) (take_all (length h) h (omega arith)) then

-- of two transactions that write one object one is in the snapshot of the other
pub one_seen : (h : List Step) (x y : Tid) (oid : ObjId) → IsLegal h → x ≢ y
    → Contains (write_set (committed_updates h x)) oid → Contains (write_set (committed_updates h y)) oid
    → Contains (snapshot x h) y ⊎ Contains (snapshot y h) x
one_seen h x y oid legal apart writes overwrites =
    elim (writers_ordered h legal x y apart (oid, writes, overwrites)) [
      | inl first ↦ inr (before_start_seen h x y legal first)
      | inr first ↦ inl (before_start_seen h y x legal first)
    ]
