-- What a history with more steps at its end is, by what it was.
use Rattle.std.proofs.Common.{◌≡◌, ℕ, List, [], ◌∷◌, ◌++◌, length, take, drop, refl, sym, subst, arith, inl, inr, ◌⊎◌, ◌↔◌}
use Rattle.std.proofs.lemmas.List.{take-append-le, take_at, take-append-drop}
use Rattle.std.proofs.lemmas.List.Elements.{Contains-append_left, Contains-push, Contains-push_cases}
use Rattle.std.proofs.lemmas.Option.{slice_get_within}
use Rattle.walter_base.specs.declared.names.SiteId.{SiteId}
use Rattle.walter_base.specs.declared.names.Tid.{Tid}
use Rattle.walter_base.specs.declared.update.Update.{Update}
use Rattle.walter_psi.specs.declared.step.Step.{Step}
use Rattle.walter_psi.specs.declared.step.Step.TheVariants.{Start, Commit}
use Rattle.walter_psi.specs.Histories.{log, logged, commits, commit_of, own_updates, done, committed_updates, given, IsStarted, IsCommitted}
use Rattle.walter_psi.specs.Legal.{IsLegal, IsLegalStep}
use Rattle.walter_psi.proofs.Lists.{slice_get-push_cases, slice_get-append_left, slice_get-push, flat_map-push}

-- a step that may follow, under another name
pub legal_same : (steps : List Step) (step other : Step) → step ≡ other → IsLegalStep steps step → IsLegalStep steps other
legal_same steps step other same next = subst (λ z. IsLegalStep steps z) same next

-- one more step that may follow leaves a legal history legal
pub legal_snoc : (steps : List Step) (step : Step) → IsLegal steps → IsLegalStep steps step → IsLegal (steps ++ step ∷ [])
legal_snoc steps step legal next place z at =
    elim (slice_get-push_cases steps step z place at) [
      | inl before ↦
          let front = take-append-le place steps (step ∷ []) (omega (arith, before.0)) in
          subst (λ earlier. IsLegalStep earlier z) (sym front) (legal place z before.1)
      | inr last ↦
          let front = take_at steps (step ∷ []) place (sym last.0) in
          subst (λ earlier. IsLegalStep earlier z) (sym front) (legal_same steps step z last.1 next)
    ]

-- the front of a legal history is legal
pub legal_front : (front rest : List Step) → IsLegal (front ++ rest) → IsLegal front
legal_front front rest legal place z at =
    let within = slice_get_within front place z at in
    let same = take-append-le place front rest (omega (arith, within)) in
    subst (λ earlier. IsLegalStep earlier z) same (legal place z (slice_get-append_left front rest z place at))

-- so are the first steps of it, however many
pub legal_take : (n : ℕ) (steps : List Step) → IsLegal steps → IsLegal (take n steps)
legal_take n steps legal = legal_front (take n steps) (drop n steps) (subst (λ all. IsLegal all) (sym (take-append-drop n steps)) legal)

-- the last step of a legal history may follow the others
pub legal_last : (steps : List Step) (step : Step) → IsLegal (steps ++ step ∷ []) → IsLegalStep steps step
legal_last steps step legal =
    let front = take_at steps (step ∷ []) (length steps) refl in
    subst (λ earlier. IsLegalStep earlier step) front (legal (length steps) step (slice_get-push steps step))

-- a history with one more step is legal exactly where it was and the step may follow
pub legal_one_more : (steps : List Step) (step : Step) → IsLegal (steps ++ step ∷ []) ↔ (IsLegal steps × IsLegalStep steps step)
legal_one_more steps step = (
  λ legal. (legal_front steps (step ∷ []) legal, legal_last steps step legal),
  λ both. legal_snoc steps step both.0 both.1,
)

-- the log of a site after one more step
pub log_snoc : (s : SiteId) (steps : List Step) (step : Step) → log s (steps ++ step ∷ []) ≡ log s steps ++ logged s step
log_snoc s steps step = flat_map-push (logged s) steps step

-- the commits of a site after one more step
pub commits_snoc : (s : SiteId) (steps : List Step) (step : Step) → commits s (steps ++ step ∷ []) ≡ commits s steps ++ commit_of s step
commits_snoc s steps step = flat_map-push (commit_of s) steps step

-- what a transaction has done after one more step
pub own_updates_snoc : (x : Tid) (steps : List Step) (step : Step)
    → own_updates x (steps ++ step ∷ []) ≡ own_updates x steps ++ done x step
own_updates_snoc x steps step = flat_map-push (done x) steps step

-- what a transaction has committed after one more step
pub committed_updates_snoc : (x : Tid) (steps : List Step) (step : Step)
    → committed_updates (steps ++ step ∷ []) x ≡ committed_updates steps x ++ given x step
committed_updates_snoc x steps step = flat_map-push (given x) steps step

-- a started transaction stays started
pub started_kept : (x : Tid) (steps more : List Step) → IsStarted x steps → IsStarted x (steps ++ more)
started_kept x steps more started = (started.0, Contains-append_left steps more (Start x started.0) started.1)

-- a start starts its transaction
pub started_here : (x : Tid) (site : SiteId) (steps : List Step) → IsStarted x (steps ++ Start x site ∷ [])
started_here x site steps = (site, Contains-push steps (Start x site))

-- a transaction is started after one more step exactly where it was, or the step is a start of it
pub started_snoc : (x : Tid) (steps : List Step) (step : Step)
    → IsStarted x (steps ++ step ∷ []) ↔ (IsStarted x steps ⊎ ((site : SiteId) × (step ≡ Start x site)))
started_snoc x steps step = (
  λ started. elim (Contains-push_cases steps step (Start x started.0) started.1) [
    | inl before ↦ inl (started.0, before)
    | inr same ↦ inr (started.0, same)
  ],
  λ cases. elim cases [
    | inl before ↦ started_kept x steps (step ∷ []) before
    | inr here ↦ subst (λ z. IsStarted x (steps ++ z ∷ [])) (sym here.1) (started_here x here.0 steps)
  ],
)

-- a committed transaction stays committed
pub committed_kept : (x : Tid) (steps more : List Step) → IsCommitted x steps → IsCommitted x (steps ++ more)
committed_kept x steps more committed = (committed.0, Contains-append_left steps more (Commit x committed.0) committed.1)

-- a commit commits its transaction
pub committed_here : (x : Tid) (updates : List Update) (steps : List Step) → IsCommitted x (steps ++ Commit x updates ∷ [])
committed_here x updates steps = (updates, Contains-push steps (Commit x updates))

-- a transaction is committed after one more step exactly where it was, or the step is a commit of it
pub committed_snoc : (x : Tid) (steps : List Step) (step : Step)
    → IsCommitted x (steps ++ step ∷ []) ↔ (IsCommitted x steps ⊎ ((updates : List Update) × (step ≡ Commit x updates)))
committed_snoc x steps step = (
  λ committed. elim (Contains-push_cases steps step (Commit x committed.0) committed.1) [
    | inl before ↦ inl (committed.0, before)
    | inr same ↦ inr (committed.0, same)
  ],
  λ cases. elim cases [
    | inl before ↦ committed_kept x steps (step ∷ []) before
    | inr here ↦ subst (λ z. IsCommitted x (steps ++ z ∷ [])) (sym here.1) (committed_here x here.0 steps)
  ],
)
