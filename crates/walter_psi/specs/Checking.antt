-- What a checker of histories looks for.
use Rattle.std.specs.Prelude.{◌≡◌, ◌≢◌, ℕ, List, Some, Contains, slice_get, take}
use Rattle.walter_base.specs.declared.names.ObjId.{ObjId}
use Rattle.walter_base.specs.declared.names.SiteId.{SiteId}
use Rattle.walter_base.specs.declared.names.Tid.{Tid}
use Rattle.walter_base.specs.declared.transaction.Cause.{Cause}
use Rattle.walter_base.specs.declared.update.Update.{Update}
use Rattle.walter_base.specs.Values.{write_set, DoConflict}
use Rattle.walter_psi.specs.declared.step.Step.{Step}
use Rattle.walter_psi.specs.declared.step.Step.TheVariants.{Start, Commit, Abort}
use Rattle.walter_psi.specs.Histories.{snapshot, committed_updates}
use Rattle.walter_psi.specs.Legal.{IsLegal, IsLegalStep}

-- the steps before the place are a legal history, and the step there may not follow them
pub record IsFirstIllegal (steps : List Step) (place : ℕ) : Type 0 where
  pub legal : IsLegal (take place steps)
  pub step : Step
  pub here : slice_get steps place ≡ Some step
  pub wrong : ¬ IsLegalStep (take place steps) step

-- the step is a start of the transaction, a commit of it, an abort of it
abbrev pub IsStartOf : Tid → Step → Type 0
IsStartOf x step = (site : SiteId) × (step ≡ Start x site)

abbrev pub IsCommitOf : Tid → Step → Type 0
IsCommitOf x step = (updates : List Update) × (step ≡ Commit x updates)

abbrev pub IsAbortOf : Tid → Step → Type 0
IsAbortOf x step = (cause : Cause) × (step ≡ Abort x cause)

-- a committed transaction is another one, outside the snapshot, that conflicts with the updates
pub record Blocks (steps : List Step) (snapshot : List Tid) (x : Tid) (updates : List Update) (y : Tid) : Type 0 where
  pub other : y ≢ x
  pub outside : ¬ Contains snapshot y
  pub conflict : DoConflict (committed_updates steps y) updates

-- a transaction is another one, and isn't in the snapshot
abbrev pub IsUnseenOwner : Tid → List Step → Tid → Type 0
IsUnseenOwner x steps owner = (owner ≢ x) × ¬ Contains (snapshot x steps) owner

-- a transaction wrote the object, and isn't in the snapshot
abbrev pub IsUnseenWriter : Tid → List Step → ObjId → Tid → Type 0
IsUnseenWriter x steps oid y = Contains (write_set (committed_updates steps y)) oid × ¬ Contains (snapshot x steps) y
