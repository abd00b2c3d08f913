-- What a started transaction sees, after one more step.
use Rattle.std.proofs.Common.{◌≡◌, List, [], ◌∷◌, ◌++◌, ap, sym, ◌∙◌}
use Rattle.std.specs.Prelude.{flat_map}
use Rattle.std.proofs.lemmas.List.{append_assoc}
use Rattle.walter_base.specs.declared.names.Tid.{Tid}
use Rattle.walter_psi.specs.declared.step.Step.{Step}
use Rattle.walter_psi.specs.Histories.{snapshot, own_updates, done, committed_updates, seen_updates, IsStarted}
use Rattle.walter_psi.specs.Legal.{IsLegal, IsLegalStep}
use Rattle.walter_psi.proofs.Lists.{flat_map_agree}
use Rattle.walter_psi.proofs.OneMore.{legal_front, legal_last, own_updates_snoc}
use Rattle.walter_psi.proofs.Snapshots.{snapshot_kept}
use Rattle.walter_psi.proofs.LegalFacts.{committed_updates_kept}
use Rattle.walter_psi.proofs.Logs.{snapshot_committed}

-- the updates of a snapshot stay
pub snapshot_updates_kept : (x : Tid) (steps : List Step) (step : Step) → IsLegal steps → IsLegalStep steps step
    → flat_map (committed_updates (steps ++ step ∷ [])) (snapshot x steps) ≡ flat_map (committed_updates steps) (snapshot x steps)
snapshot_updates_kept x steps step legal next =
    flat_map_agree (committed_updates (steps ++ step ∷ [])) (committed_updates steps) (snapshot x steps)
    (λ y seen. committed_updates_kept y steps step next (snapshot_committed x y steps legal seen))

-- what a started transaction sees changes by its own updates alone
pub seen_updates_snoc : (x : Tid) (steps : List Step) (step : Step) → IsLegal (steps ++ step ∷ []) → IsStarted x steps
    → seen_updates x (steps ++ step ∷ []) ≡ seen_updates x steps ++ done x step
seen_updates_snoc x steps step legal started =
    let kept = snapshot_updates_kept x steps step (legal_front steps (step ∷ []) legal) (legal_last steps step legal) in
    let same = snapshot_kept x steps (step ∷ []) started in
    ap (λ ys. flat_map (committed_updates (steps ++ step ∷ [])) ys ++ own_updates x (steps ++ step ∷ [])) same
    ∙ ((λ i. kept i ++ own_updates_snoc x steps step i)
    ∙ sym (append_assoc (flat_map (committed_updates steps) (snapshot x steps)) (own_updates x steps) (done x step)))
