-- What holds of each run holds of the merge of right and linked trails.
use Rattle.std.proofs.Common.{◌≡◌, List, [], ◌∷◌, ◌++◌, reverse, subst}
use Rattle.walter_base.specs.declared.catalog.Catalog.{Catalog}
use Rattle.walter_base.specs.declared.names.SiteId.{SiteId}
use Rattle.walter_base.specs.declared.message.Reply.TheVariants.{Aborted}
use Rattle.walter_base.specs.declared.transaction.Cause.{Cause}
use Rattle.walter_psi.specs.Legal.{IsLegal}
use Rattle.walter_rules.specs.declared.entry.Entry.{Entry}
use Rattle.walter_rules.specs.declared.outcome.Outcome.TheVariants.{Replied}
use Rattle.walter_rules.specs.Layouts.{Layout}
use Rattle.walter_rules.specs.Merges.{Named, merge}
use Rattle.walter_runs.specs.Runs.{IsRun, AreRightTrails}
use Rattle.walter_runs.proofs.Running.{merged_run}
use Rattle.walter_linked.specs.Catalogs.{IsWhole}
use Rattle.walter_linked.proofs.Whole.{run_homes, run_behind}
use Rattle.walter_refinement.specs.Named.{IsNamed}
use Rattle.walter_refinement.specs.Once.{StandsOnce}
use Rattle.walter_refinement.specs.Spelled.{history, psi_of}
use Rattle.walter_refinement.proofs.NamedAborts.{run_named}
use Rattle.walter_refinement.proofs.Once.{run_once}
use Rattle.walter_refinement.proofs.RunSpells.{run_spells}

module _ (catalog : Catalog) (layouts : SiteId → Layout) (whole : IsWhole catalog) where
  run_legal : (run : List Named) → IsRun catalog layouts run → IsLegal (history catalog run)
  run_legal [] is = λ place step at. absurd cc
  run_legal (n ∷ older) is =
      (run_spells catalog layouts (run_homes catalog layouts whole n older is) (n ∷ older) is).spelled.legal

  pub trails_legal : (trails : List (List Entry)) → AreRightTrails catalog layouts trails
      → IsLegal (psi_of catalog (merge trails))
  trails_legal trails are = run_legal (reverse (merge trails)) (merged_run catalog layouts trails are)

  once_of : (run : List Named) → IsRun catalog layouts run → StandsOnce catalog run
  once_of [] is = record { once = λ i j place other seq number tx same here there tids. absurd cc }
  once_of (n ∷ older) is = run_once catalog layouts (run_homes catalog layouts whole n older is) (n ∷ older) is

  pub trails_once : (trails : List (List Entry)) → AreRightTrails catalog layouts trails
      → StandsOnce catalog (reverse (merge trails))
  trails_once trails are = once_of (reverse (merge trails)) (merged_run catalog layouts trails are)

  pub trails_named : (trails : List (List Entry)) → AreRightTrails catalog layouts trails
      → (newer older : List Named) (n : Named) (cause : Cause)
      → reverse (merge trails) ≡ newer ++ n ∷ older → n.1.came.outcome ≡ Replied (Aborted cause)
      → IsNamed catalog older n cause
  trails_named trails are newer older n cause is e =
      let run = run_behind catalog layouts newer (n ∷ older)
      (subst (IsRun catalog layouts) is (merged_run catalog layouts trails are)) in
      run_named catalog layouts (run_homes catalog layouts whole n older run) older n cause run e
