-- Start and commit timestamps of a legal history, and the snapshot of a transaction by its start.
use Rattle.std.proofs.Common.{◌≡◌, ℕ, zero, suc, ◌<◌, ◌≤◌, List, [], ◌∷◌, ◌++◌, take, drop, refl, ap, sym, ◌∙◌, subst, arith, slice_get, Some, inl, inr}
use Rattle.std.specs.Prelude.{Contains}
use Rattle.std.proofs.lemmas.List.{take-take}
use Rattle.std.proofs.lemmas.List.Elements.{Contains-append_left, Contains-append_right, Contains-append_cases}
use Rattle.std.proofs.lemmas.Option.{slice_get_within, get_or_from_slice_get}
use Rattle.std.proofs.Math.Seq.{split_at}
use Rattle.walter_base.specs.declared.names.SiteId.{SiteId}
use Rattle.walter_base.specs.declared.names.Tid.{Tid}
use Rattle.walter_base.specs.declared.update.Update.{Update}
use Rattle.walter_psi.specs.declared.step.Step.{Step}
use Rattle.walter_psi.specs.declared.step.Step.TheVariants.{Start, Commit, Arrive}
use Rattle.walter_psi.specs.Histories.{log, logged, snapshot, IsStarted, IsCommitted}
use Rattle.walter_psi.specs.Legal.{IsLegal}
use Rattle.walter_psi.specs.Properties.{StartsAt, CommitsAt, HasTimestamps}
use Rattle.walter_psi.proofs.Lists.{Contains-nil, place_of, slice_get-take, slice_get-take_within}
use Rattle.walter_psi.proofs.StepFacts.{logged_commit, logged_is}
use Rattle.walter_psi.proofs.OneMore.{legal_take}
use Rattle.walter_psi.proofs.Snapshots.{snapshot_here}
use Rattle.walter_psi.proofs.LegalFacts.{started_once}
use Rattle.walter_psi.proofs.Logs.{log_fresh}

-- what stands in the log of a site has a commit timestamp there
pub logged_at : (site : SiteId) (steps : List Step) (x : Tid) → Contains (log site steps) x → (place : ℕ) × CommitsAt steps x site place
logged_at site [] x stands = absurd (Contains-nil x stands)
logged_at site (first ∷ others) x stands =
    elim (Contains-append_cases (logged site first) (log site others) x stands) [
      | inl here ↦ (0, record { step = first; here = refl; logs = here })
      | inr there ↦
          let later = logged_at site others x there in
          (suc later.0, record { step = later.1.step; here = later.1.here; logs = later.1.logs })
    ]

-- what has a commit timestamp at a site stands in its log
pub at_logged : (site : SiteId) (steps : List Step) (x : Tid) (place : ℕ) → CommitsAt steps x site place → Contains (log site steps) x
at_logged site [] x place c = absurd (let none = c.here in cc)
at_logged site (first ∷ others) x zero c =
    let at = c.here in
    let same : c.step ≡ first = cc in
    Contains-append_left (logged site first) (log site others) x (subst (λ step. Contains (logged site step) x) same c.logs)
at_logged site (first ∷ others) x (suc place) c =
    Contains-append_right (logged site first) (log site others) x
    (at_logged site others x place (record { step = c.step; here = c.here; logs = c.logs }))

-- a commit timestamp is one of a front that it is in
pub commits_at_take : (steps : List Step) (x : Tid) (site : SiteId) (n place : ℕ) → place < n
    → CommitsAt steps x site place → CommitsAt (take n steps) x site place
commits_at_take steps x site n place within c = record { step = c.step; here = slice_get-take steps n place within ∙ c.here; logs = c.logs }

-- what stands in the log of a site after the first steps has a commit timestamp there among them
pub logged_before : (site : SiteId) (steps : List Step) (x : Tid) (n : ℕ) → Contains (log site (take n steps)) x
    → (place : ℕ) × (place < n) × CommitsAt steps x site place
logged_before site steps x n stands =
    let c = logged_at site (take n steps) x stands in
    let within = slice_get-take_within steps n c.0 c.1.step c.1.here in
    (c.0, within, record { step = c.1.step; here = sym (slice_get-take steps n c.0 within) ∙ c.1.here; logs = c.1.logs })

-- a commit is the commit timestamp at the transaction's own site
pub commit_at : (steps : List Step) (x : Tid) (us : List Update) (place : ℕ) → slice_get steps place ≡ Some (Commit x us)
    → CommitsAt steps x x.site place
commit_at steps x us place at =
    record { step = Commit x us; here = at; logs = subst (λ made. Contains made x) (sym (logged_commit x us)) (0, omega arith, refl) }

-- a committed transaction has a commit among the first steps
pub commit_before : (steps : List Step) (x : Tid) (n : ℕ) → IsCommitted x (take n steps)
    → (place : ℕ) × (place < n) × (us : List Update) × (slice_get steps place ≡ Some (Commit x us))
commit_before steps x n committed =
    let p = place_of (take n steps) (Commit x committed.0) committed.1 in
    let within = slice_get-take_within steps n p.0 (Commit x committed.0) p.1 in
    (p.0, within, committed.0, sym (slice_get-take steps n p.0 within) ∙ p.1)

-- a transaction that is started has its start timestamp among the first steps
pub start_before : (steps : List Step) (x : Tid) (n : ℕ) → IsLegal steps → IsStarted x (take n steps)
    → (begun : ℕ) × (begun < n) × StartsAt steps x begun
start_before steps x n legal started =
    let p = place_of (take n steps) (Start x started.0) started.1 in
    let within = slice_get-take_within steps n p.0 (Start x started.0) p.1 in
    let at : slice_get steps p.0 ≡ Some (Start x started.0) = sym (slice_get-take steps n p.0 within) ∙ p.1 in
    let own : x.site ≡ started.0 = (legal p.0 (Start x started.0) at).0 in
    (p.0, within, at ∙ ap (λ site. Some (Start x site)) (sym own))

-- the commit at the own site comes first, whichever site it is
pub own_commit_first : (steps : List Step) (x : Tid) (site : SiteId) (place : ℕ) → IsLegal steps → CommitsAt steps x site place
    → (first : ℕ) × (first ≤ place) × (us : List Update) × (slice_get steps first ≡ Some (Commit x us))
own_commit_first steps x site place legal c =
    elim (logged_is x site c.step c.logs) [
      | inl commit ↦ (place, omega arith, commit.0, c.here ∙ ap (λ z. Some z) commit.1)
      | inr arrive ↦
          let first = commit_before steps x place (legal place (Arrive x site) (c.here ∙ ap (λ z. Some z) arrive)).committed in
          (first.0, omega (arith, first.1), first.2, first.3)
    ]

-- a commit comes after the start
pub commit_started : (steps : List Step) (x : Tid) (site : SiteId) (place : ℕ) → IsLegal steps → CommitsAt steps x site place
    → (begun : ℕ) × (begun < place) × StartsAt steps x begun
commit_started steps x site place legal c =
    let first = own_commit_first steps x site place legal c in
    let start = start_before steps x first.0 legal (legal first.0 (Commit x first.2) first.3).running.0 in
    (start.0, omega (arith, start.1, first.1), start.2)

-- a transaction commits once at a site
pub one_commit : (steps : List Step) (x : Tid) (site : SiteId) (place other : ℕ) → IsLegal steps
    → CommitsAt steps x site place → CommitsAt steps x site other → place ≡ other
one_commit steps x site place other legal c d =
    let no_later = not_after place other c d in
    let no_sooner = not_after other place d c in
    omega arith
  where
    not_after : (a b : ℕ) → CommitsAt steps x site a → CommitsAt steps x site b → ¬ (a < b)
    not_after a b sooner later l =
        log_fresh site x (take b steps) later.step (legal_take b steps legal) (legal b later.step later.here) later.logs
        (at_logged site (take b steps) x a (commits_at_take steps x site b a l sooner))

-- the timestamps of a legal history
pub legal_timestamps : (steps : List Step) → IsLegal steps → HasTimestamps steps
legal_timestamps steps legal = record {
  one_start = λ x place other at there. started_once x steps place other x.site x.site legal at there;
  one_commit = λ x site place other c d. one_commit steps x site place other legal c d;
  started = λ x site place c. commit_started steps x site place legal c;
  own_first = λ x site place c.
      let first = own_commit_first steps x site place legal c in
      (first.0, first.1, commit_at steps x first.2 first.0 first.3);
}

-- a list at one of its places
split_here : {X : Type 0} (xs : List X) (place : ℕ) (x : X) → slice_get xs place ≡ Some x
    → xs ≡ take place xs ++ x ∷ drop (suc place) xs
split_here xs place x at =
    split_at xs place x (slice_get_within xs place x at)
    ∙ ap (λ y. take place xs ++ y ∷ drop (suc place) xs) (get_or_from_slice_get xs place x x at)

-- the snapshot of a transaction is the log of its site at its start
pub snapshot_at : (steps : List Step) (x : Tid) (begun n : ℕ) → IsLegal steps → StartsAt steps x begun → begun < n
    → snapshot x (take n steps) ≡ log x.site (take begun steps)
snapshot_at steps x begun n legal start within =
    let front = take-take begun n steps (omega arith) in
    let at = slice_get-take steps n begun within ∙ start in
    let fresh = subst (λ earlier. ¬ IsStarted x earlier) (sym front) (legal begun (Start x x.site) start).1 in
    ap (λ all. snapshot x all) (split_here (take n steps) begun (Start x x.site) at)
    ∙ snapshot_here x x.site (take begun (take n steps)) (drop (suc begun) (take n steps)) fresh
    ∙ ap (λ earlier. log x.site earlier) front
