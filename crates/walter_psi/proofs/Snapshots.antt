-- What stands before a transaction's start, and its snapshot, as steps are added.
use Rattle.std.proofs.Common.{◌≡◌, List, [], ◌∷◌, ◌++◌, refl, ap, sym, ◌∙◌, subst, true, false, inl, inr, if◌then◌else◌, Some}
use Rattle.std.specs.Prelude.{Contains}
use Rattle.std.proofs.lemmas.Bool.{false_from_ne_true}
use Rattle.std.proofs.lemmas.List.Concat.{flat_map-append}
use Rattle.std.proofs.lemmas.List.Elements.{Contains-append_left, Contains-append_right, Contains-append_cases}
use Rattle.walter_base.specs.declared.names.SiteId.{SiteId}
use Rattle.walter_base.specs.declared.names.Tid.{Tid}
use Rattle.walter_psi.specs.declared.step.Step.{Step}
use Rattle.walter_psi.specs.declared.step.Step.TheVariants.{Start}
use Rattle.walter_psi.specs.Histories.{log, logged, starts, before_start, snapshot, IsStarted}
use Rattle.walter_psi.proofs.Lists.{Contains-nil, Contains-one, contains_at}
use Rattle.walter_psi.proofs.StepFacts.{starts_start, starts_is}

-- a start that isn't the first step is a later one
later : (x : Tid) (first : Step) (others : List Step) → starts x first ≡ false → IsStarted x (first ∷ others) → IsStarted x others
later x first others other started =
    elim (Contains-append_cases (first ∷ []) others (Start x started.0) started.1) [
      | inl here ↦
          let same = Contains-one first (Start x started.0) here in
          let starts_it : starts x first ≡ true = ap (λ z. starts x z) same ∙ starts_start x started.0 in
          absurd cc
      | inr there ↦ (started.0, there)
    ]

-- where the transaction isn't started, the first step doesn't start it
first_other : (x : Tid) (first : Step) (others : List Step) → ¬ IsStarted x (first ∷ others) → starts x first ≡ false
first_other x first others fresh =
    false_from_ne_true (starts x first) (λ is.
    let start = starts_is x first is in
    fresh (start.0, contains_at (first ∷ others) (Start x start.0) 0 (ap (λ z. Some z) start.1)))

-- what stands before the start of a started transaction stays
pub before_start_kept : (x : Tid) (steps more : List Step) → IsStarted x steps → before_start x (steps ++ more) ≡ before_start x steps
before_start_kept x [] more started = absurd (Contains-nil (Start x started.0) started.1)
before_start_kept x (first ∷ others) more started =
    elim (starts x first) as
    (λ b. starts x first ≡ b
    → (if b then [] else first ∷ before_start x (others ++ more)) ≡ (if b then [] else first ∷ before_start x others)) [
      | true ↦ λ is. refl
      | false ↦ λ other. ap (λ front. first ∷ front) (before_start_kept x others more (later x first others other started))
    ] refl

-- the first start of a transaction has all the steps before it
pub before_start_here : (x : Tid) (site : SiteId) (steps more : List Step) → ¬ IsStarted x steps
    → before_start x (steps ++ Start x site ∷ more) ≡ steps
before_start_here x site [] more fresh = rw (starts_start x site) refl
before_start_here x site (first ∷ others) more fresh =
    let rest = λ (started : IsStarted x others). fresh (started.0, Contains-append_right (first ∷ []) others (Start x started.0) started.1) in
    rw (first_other x first others fresh) (ap (λ front. first ∷ front) (before_start_here x site others more rest))

-- the steps before a start are a front of the history
pub before_start_front : (x : Tid) (steps : List Step) → (rest : List Step) × (before_start x steps ++ rest ≡ steps)
before_start_front x [] = ([], refl)
before_start_front x (first ∷ others) =
    elim (starts x first) as (λ b. (rest : List Step) × ((if b then [] else first ∷ before_start x others) ++ rest ≡ first ∷ others)) [
      | true ↦ (first ∷ others, refl)
      | false ↦ let front = before_start_front x others in (front.0, ap (λ steps. first ∷ steps) front.1)
    ]

-- the snapshot of a started transaction stays
pub snapshot_kept : (x : Tid) (steps more : List Step) → IsStarted x steps → snapshot x (steps ++ more) ≡ snapshot x steps
snapshot_kept x steps more started = ap (λ front. log x.site front) (before_start_kept x steps more started)

-- the snapshot of a transaction that starts is the log of its site then
pub snapshot_here : (x : Tid) (site : SiteId) (steps more : List Step) → ¬ IsStarted x steps
    → snapshot x (steps ++ Start x site ∷ more) ≡ log x.site steps
snapshot_here x site steps more fresh = ap (λ front. log x.site front) (before_start_here x site steps more fresh)

-- the log of a transaction's site is its snapshot, and what came to stand there since
pub snapshot_front : (x : Tid) (steps : List Step) → (rest : List Tid) × (snapshot x steps ++ rest ≡ log x.site steps)
snapshot_front x steps =
    let front = before_start_front x steps in
    (log x.site front.0, sym (flat_map-append (logged x.site) (before_start x steps) front.0) ∙ ap (λ all. log x.site all) front.1)

-- what stands in a snapshot stands in the log of the transaction's site
pub snapshot_logged : (x y : Tid) (steps : List Step) → Contains (snapshot x steps) y → Contains (log x.site steps) y
snapshot_logged x y steps seen =
    let front = snapshot_front x steps in
    subst (λ all. Contains all y) front.1 (Contains-append_left (snapshot x steps) front.0 y seen)
