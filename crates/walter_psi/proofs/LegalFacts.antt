-- What holds of every legal history.
use Rattle.std.proofs.Common.{◌≡◌, ℕ, ◌<◌, List, [], ◌∷◌, ◌++◌, take, refl, ap, ◌∙◌, slice_get, Some, arith, inl, inr}
use Rattle.std.specs.Prelude.{Contains}
use Rattle.std.proofs.lemmas.List.{append-nil}
use Rattle.std.proofs.lemmas.List.Elements.{Contains-push_cases}
use Rattle.walter_base.specs.declared.names.SiteId.{SiteId}
use Rattle.walter_base.specs.declared.names.Tid.{Tid}
use Rattle.walter_base.specs.declared.transaction.Cause.{Cause}
use Rattle.walter_base.specs.declared.update.Update.{Update}
use Rattle.walter_psi.specs.declared.step.Step.{Step}
use Rattle.walter_psi.specs.declared.step.Step.TheVariants.{Start, Op, Commit, Abort}
use Rattle.walter_psi.specs.Histories.{own_updates, done, committed_updates, given, IsStarted, IsCommitted}
use Rattle.walter_psi.specs.Legal.{IsOver, IsRunning, IsLegal, IsLegalStep}
use Rattle.walter_psi.proofs.Lists.{Contains-nil, contains_at, slice_get-take, push_induction}
use Rattle.walter_psi.proofs.StepFacts.{done_none, given_commit, given_none}
use Rattle.walter_psi.proofs.OneMore.{legal_same, legal_front, legal_last, own_updates_snoc, committed_updates_snoc}
use Rattle.walter_psi.proofs.OneMore.{started_kept, committed_kept, committed_snoc}

-- what holds of no steps, and of one more legal step where it holds of a legal history, holds of every legal history
pub legal_induction : (P : List Step → Type 0) → P []
    → ((steps : List Step) (step : Step) → IsLegal steps → IsLegalStep steps step → P steps → P (steps ++ step ∷ []))
    → (steps : List Step) → IsLegal steps → P steps
legal_induction P none more steps =
    push_induction (λ steps. IsLegal steps → P steps) (λ legal. none)
    (λ steps step holds legal.
    let front = legal_front steps (step ∷ []) legal in
    more steps step front (legal_last steps step legal) (holds front))
    steps

-- a committed transaction is started
pub committed_started : (x : Tid) (steps : List Step) → IsLegal steps → IsCommitted x steps → IsStarted x steps
committed_started x = legal_induction (λ steps. IsCommitted x steps → IsStarted x steps)
    (λ committed. absurd (Contains-nil (Commit x committed.0) committed.1))
    (λ steps step legal next holds committed. elim ((committed_snoc x steps step).0 committed) [
      | inl before ↦ started_kept x steps (step ∷ []) (holds before)
      | inr here ↦ started_kept x steps (step ∷ []) (legal_same steps step (Commit x here.0) here.1 next).running.0
    ])

-- an aborted transaction is started
pub aborted_started : (x : Tid) (cause : Cause) (steps : List Step) → IsLegal steps → Contains steps (Abort x cause) → IsStarted x steps
aborted_started x cause = legal_induction (λ steps. Contains steps (Abort x cause) → IsStarted x steps)
    (λ aborted. absurd (Contains-nil (Abort x cause) aborted))
    (λ steps step legal next holds aborted. elim (Contains-push_cases steps step (Abort x cause) aborted) [
      | inl before ↦ started_kept x steps (step ∷ []) (holds before)
      | inr here ↦ started_kept x steps (step ∷ []) (legal_same steps step (Abort x cause) here next).0.0
    ])

-- a transaction that is over is started
pub over_started : (x : Tid) (steps : List Step) → IsLegal steps → IsOver x steps → IsStarted x steps
over_started x steps legal over =
    elim over [
      | inl committed ↦ committed_started x steps legal committed
      | inr aborted ↦ aborted_started x aborted.0 steps legal aborted.1
    ]

-- a legal step does something for a running transaction alone
pub done_running : (x : Tid) (steps : List Step) (step : Step) → IsLegalStep steps step → ¬ IsRunning x steps → done x step ≡ []
done_running x steps step next idle = done_none x step (λ u is. idle (legal_same steps step (Op x u) is next))

-- a transaction that isn't started has done nothing
pub none_done : (x : Tid) (steps : List Step) → IsLegal steps → ¬ IsStarted x steps → own_updates x steps ≡ []
none_done x = legal_induction (λ steps. ¬ IsStarted x steps → own_updates x steps ≡ [])
    (λ fresh. refl)
    (λ steps step legal next holds fresh.
    let before = λ (started : IsStarted x steps). fresh (started_kept x steps (step ∷ []) started) in
    own_updates_snoc x steps step
    ∙ (ap (λ us. us ++ done x step) (holds before) ∙ done_running x steps step next (λ running. before running.0)))

-- a legal step is no commit of a committed transaction
pub commit_fresh : (x : Tid) (us : List Update) (steps : List Step) (step : Step)
    → IsLegalStep steps step → step ≡ Commit x us → ¬ IsCommitted x steps
commit_fresh x us steps step next is committed = (legal_same steps step (Commit x us) is next).running.1 (inl committed)

-- a transaction that isn't committed has committed no updates
pub none_committed : (x : Tid) (steps : List Step) → ¬ IsCommitted x steps → committed_updates steps x ≡ []
none_committed x = push_induction (λ steps. ¬ IsCommitted x steps → committed_updates steps x ≡ [])
    (λ fresh. refl)
    (λ steps step holds fresh.
    committed_updates_snoc x steps step
    ∙ (ap (λ us. us ++ given x step) (holds (λ committed. fresh (committed_kept x steps (step ∷ []) committed)))
    ∙ given_none x step (λ us is. fresh ((committed_snoc x steps step).1 (inr (us, is))))))

-- what a transaction has committed stays
pub committed_updates_kept : (x : Tid) (steps : List Step) (step : Step) → IsLegalStep steps step → IsCommitted x steps
    → committed_updates (steps ++ step ∷ []) x ≡ committed_updates steps x
committed_updates_kept x steps step next committed =
    committed_updates_snoc x steps step
    ∙ (ap (λ us. committed_updates steps x ++ us) (given_none x step (λ us is. commit_fresh x us steps step next is committed))
    ∙ append-nil (committed_updates steps x))

-- the updates of its commit are what a transaction has committed
pub committed_updates_of : (x : Tid) (us : List Update) (steps : List Step) → IsLegal steps → Contains steps (Commit x us)
    → committed_updates steps x ≡ us
committed_updates_of x us = legal_induction (λ steps. Contains steps (Commit x us) → committed_updates steps x ≡ us)
    (λ c. absurd (Contains-nil (Commit x us) c))
    (λ steps step legal next holds c. elim (Contains-push_cases steps step (Commit x us) c) [
      | inl before ↦ committed_updates_kept x steps step next (us, before) ∙ holds before
      | inr here ↦
          committed_updates_snoc x steps step
          ∙ ap (λ vs. vs ++ given x step) (none_committed x steps (commit_fresh x us steps step next here))
          ∙ ap (λ z. given x z) here ∙ given_commit x us
    ])

-- a transaction starts once
pub started_once : (x : Tid) (steps : List Step) (first second : ℕ) (s t : SiteId) → IsLegal steps
    → slice_get steps first ≡ Some (Start x s) → slice_get steps second ≡ Some (Start x t) → first ≡ second
started_once x steps first second s t legal one other =
    let no_later = not_after first second s t one other in
    let no_sooner = not_after second first t s other one in
    omega arith
  where
    not_after : (a b : ℕ) (s t : SiteId) → slice_get steps a ≡ Some (Start x s) → slice_get steps b ≡ Some (Start x t) → ¬ (a < b)
    not_after a b s t at later l =
        (legal b (Start x t) later).1 (s, contains_at (take b steps) (Start x s) a (slice_get-take steps b a l ∙ at))
