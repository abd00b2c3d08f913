-- What stands in the logs, and among the commits, of a legal history.
use Rattle.std.proofs.Common.{◌≡◌, ◌≢◌, List, [], ◌∷◌, ◌++◌, refl, ap, sym, ◌∙◌, subst, true, false, inl, inr, ◌⊎◌, arith, if◌then◌else◌}
use Rattle.std.specs.Prelude.{Contains, AllPairs, filter, flat_map}
use Rattle.std.proofs.lemmas.Bool.{false_from_ne_true}
use Rattle.std.proofs.lemmas.List.{append-nil}
use Rattle.std.proofs.lemmas.List.Elements.{Contains-append_cases, Contains-get_or, filter-append}
use Rattle.std.proofs.lemmas.List.Quantifiers.{all_pairs_push}
use Rattle.walter_base.specs.declared.names.SiteId.{SiteId}
use Rattle.walter_base.specs.declared.names.Tid.{Tid}
use Rattle.walter_base.specs.Names.{same_site}
use Rattle.walter_base.proofs.NameTests.{same_site-true}
use Rattle.walter_psi.specs.declared.step.Step.{Step}
use Rattle.walter_psi.specs.declared.step.Step.TheVariants.{Start, Op, Read, Commit, Arrive, Abort, Told}
use Rattle.walter_psi.specs.Histories.{log, logged, commits, commit_of, snapshot, IsCommitted}
use Rattle.walter_psi.specs.Legal.{IsLegal, IsLegalStep}
use Rattle.walter_psi.proofs.Lists.{Contains-nil, contains_at, flat_map-push, Contains-flat_map}
use Rattle.walter_psi.proofs.StepFacts.{logged_is, logged_at_most, logged_commit}
use Rattle.walter_psi.proofs.OneMore.{legal_same, log_snoc, commits_snoc, committed_kept, committed_snoc}
use Rattle.walter_psi.proofs.Snapshots.{snapshot_logged}
use Rattle.walter_psi.proofs.LegalFacts.{legal_induction, commit_fresh}

-- what is committed stands in the log of its own site
pub committed_logged : (x : Tid) (steps : List Step) → IsCommitted x steps → Contains (log x.site steps) x
committed_logged x steps committed =
    Contains-flat_map (logged x.site) steps (Commit x committed.0) x committed.1
    (subst (λ made. Contains made x) (sym (logged_commit x committed.0)) (contains_at (x ∷ []) x 0 refl))

-- what stands in the log of a site is committed
pub logged_committed : (s : SiteId) (x : Tid) (steps : List Step) → IsLegal steps → Contains (log s steps) x → IsCommitted x steps
logged_committed s x = legal_induction (λ steps. Contains (log s steps) x → IsCommitted x steps)
    (λ stands. absurd (Contains-nil x stands))
    (λ steps step legal next holds stands.
    elim (Contains-append_cases (log s steps) (logged s step) x (subst (λ all. Contains all x) (log_snoc s steps step) stands)) [
      | inl before ↦ committed_kept x steps (step ∷ []) (holds before)
      | inr here ↦ elim (logged_is x s step here) [
        | inl commit ↦ (committed_snoc x steps step).1 (inr (commit.0, commit.1))
        | inr arrive ↦ committed_kept x steps (step ∷ []) (legal_same steps step (Arrive x s) arrive next).committed
      ]
    ])

-- what stands in a snapshot is committed
pub snapshot_committed : (x y : Tid) (steps : List Step) → IsLegal steps → Contains (snapshot x steps) y → IsCommitted y steps
snapshot_committed x y steps legal seen = logged_committed x.site y steps legal (snapshot_logged x y steps seen)

-- a legal step logs nothing at a site that stands there
pub log_fresh : (s : SiteId) (x : Tid) (steps : List Step) (step : Step) → IsLegal steps → IsLegalStep steps step
    → Contains (logged s step) x → ¬ Contains (log s steps) x
log_fresh s x steps step legal next here stands =
    elim (logged_is x s step here) [
      | inl commit ↦ commit_fresh x commit.0 steps step next commit.1 (logged_committed s x steps legal stands)
      | inr arrive ↦ (legal_same steps step (Arrive x s) arrive next).new stands
    ]

-- of what a legal step logs at a site, it commits there what is of that site
own_step : (s : SiteId) (steps : List Step) (step : Step) → IsLegalStep steps step
    → commit_of s step ≡ filter (λ x. same_site x.site s) (logged s step)
own_step s steps (Commit x us) next =
    elim (same_site x.site s) as
    (λ b. same_site x.site s ≡ b → (if b then x ∷ [] else []) ≡ filter (λ z. same_site z.site s) (if b then x ∷ [] else [])) [
      | true ↦ λ is. rw is refl
      | false ↦ λ is. refl
    ] refl
own_step s steps (Arrive x at) next =
    elim (same_site at s) as (λ b. same_site at s ≡ b → [] ≡ filter (λ z. same_site z.site s) (if b then x ∷ [] else [])) [
      | true ↦ λ is.
          let apart = λ (own : same_site x.site s ≡ true). next.elsewhere (same_site-true at s is ∙ sym (same_site-true x.site s own)) in
          rw (false_from_ne_true (same_site x.site s) apart) refl
      | false ↦ λ is. refl
    ] refl
own_step s steps (Start x at) next = refl
own_step s steps (Op x u) next = refl
own_step s steps (Read x oid answer) next = refl
own_step s steps (Abort x cause) next = refl
own_step s steps (Told x what) next = refl

-- the commits of a site are the transactions of that site in its log
pub own_log : (s : SiteId) (steps : List Step) → IsLegal steps → commits s steps ≡ filter (λ x. same_site x.site s) (log s steps)
own_log s = legal_induction (λ steps. commits s steps ≡ filter (λ x. same_site x.site s) (log s steps))
    refl
    (λ steps step legal next holds.
    commits_snoc s steps step
    ∙ (λ i. holds i ++ own_step s steps step next i)
    ∙ (sym (filter-append (λ x. same_site x.site s) (log s steps) (logged s step))
    ∙ ap (λ all. filter (λ x. same_site x.site s) all) (sym (log_snoc s steps step))))

-- what each step adds at most one of, and no legal step adds again, is never twice the same
distinct : (f : Step → List Tid) → ((step : Step) → (f step ≡ []) ⊎ ((x : Tid) × (f step ≡ x ∷ [])))
    → ((x : Tid) (steps : List Step) (step : Step) → IsLegal steps → IsLegalStep steps step → Contains (f step) x
    → ¬ Contains (flat_map f steps) x)
    → (steps : List Step) → IsLegal steps → AllPairs (λ x y. x ≢ y) (flat_map f steps)
distinct f one fresh = legal_induction (λ steps. AllPairs (λ x y. x ≢ y) (flat_map f steps))
    (λ i j d before within. absurd (omega arith))
    (λ steps step legal next holds. subst (λ all. AllPairs (λ x y. x ≢ y) all) (sym (flat_map-push f steps step)) (elim (one step) [
      | inl none ↦ rw (none, append-nil) holds
      | inr here ↦ rw here.1 (all_pairs_push (λ x y. x ≢ y) (flat_map f steps) here.0 holds (λ k d within same.
          let stands = Contains-get_or (flat_map f steps) k d within in
          fresh here.0 steps step legal next (subst (λ made. Contains made here.0) (sym here.1) (contains_at (here.0 ∷ []) here.0 0 refl))
          (subst (λ x. Contains (flat_map f steps) x) same stands)))
    ]))

-- no transaction stands twice in a log
pub log_distinct : (s : SiteId) (steps : List Step) → IsLegal steps → AllPairs (λ x y. x ≢ y) (log s steps)
log_distinct s = distinct (logged s) (logged_at_most s) (log_fresh s)
