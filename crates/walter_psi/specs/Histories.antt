-- Histories, the log of a site, and the state that a transaction reads (Sovran et al., SOSP 2011, section 3.2: logs of
-- sites, start and commit timestamps, snapshots). A timestamp is a place in the one list of steps.
use Rattle.std.specs.Prelude.{Bool, false, List, [], ◌∷◌, ◌++◌, flat_map, Contains, if◌then◌else◌}
use Rattle.walter_base.specs.declared.names.SiteId.{SiteId}
use Rattle.walter_base.specs.declared.names.Tid.{Tid}
use Rattle.walter_base.specs.declared.update.Update.{Update}
use Rattle.walter_base.specs.Names.{same_site, same_tid}
use Rattle.walter_psi.specs.declared.step.Step.{Step}
use Rattle.walter_psi.specs.declared.step.Step.TheVariants.{Start, Op, Read, Commit, Arrive, Abort, Told}

-- the transaction of the site that the step commits
abbrev pub commit_of : SiteId → Step → List Tid
commit_of s (Commit x us) = if same_site x.site s then x ∷ [] else []
commit_of s (Arrive x at) = []
commit_of s (Start x at) = []
commit_of s (Op x u) = []
commit_of s (Read x oid answer) = []
commit_of s (Abort x cause) = []
commit_of s (Told x what) = []

-- the transactions of a site that these steps commit, in order
abbrev pub commits : SiteId → List Step → List Tid
commits s steps = flat_map (commit_of s) steps

-- the transaction that the step makes stand in the log of the site: by its commit there, or by its arrival
abbrev pub logged : SiteId → Step → List Tid
logged s (Commit x us) = if same_site x.site s then x ∷ [] else []
logged s (Arrive x at) = if same_site at s then x ∷ [] else []
logged s (Start x at) = []
logged s (Op x u) = []
logged s (Read x oid answer) = []
logged s (Abort x cause) = []
logged s (Told x what) = []

-- the log of a site after these steps: the transactions that stand there, in order
abbrev pub log : SiteId → List Step → List Tid
log s steps = flat_map (logged s) steps

-- whether the step is a start of the transaction
abbrev pub starts : Tid → Step → Bool
starts x (Start y at) = same_tid x y
starts x (Op y u) = false
starts x (Read y oid answer) = false
starts x (Commit y us) = false
starts x (Arrive y at) = false
starts x (Abort y cause) = false
starts x (Told y what) = false

-- the steps before the transaction's start; all of them, where it hasn't started
abbrev pub before_start : Tid → List Step → List Step
before_start x [] = []
before_start x (step ∷ steps) = if starts x step then [] else step ∷ before_start x steps

-- the snapshot of a transaction: the log of its site when it started
abbrev pub snapshot : Tid → List Step → List Tid
snapshot x steps = log x.site (before_start x steps)

-- the update that the step does for the transaction
abbrev pub done : Tid → Step → List Update
done x (Op y u) = if same_tid x y then u ∷ [] else []
done x (Start y at) = []
done x (Read y oid answer) = []
done x (Commit y us) = []
done x (Arrive y at) = []
done x (Abort y cause) = []
done x (Told y what) = []

-- the updates that the transaction has done, in order
abbrev pub own_updates : Tid → List Step → List Update
own_updates x steps = flat_map (done x) steps

-- the updates that the step commits for the transaction
abbrev pub given : Tid → Step → List Update
given x (Commit y us) = if same_tid x y then us else []
given x (Start y at) = []
given x (Op y u) = []
given x (Read y oid answer) = []
given x (Arrive y at) = []
given x (Abort y cause) = []
given x (Told y what) = []

-- the updates that the transaction has committed
abbrev pub committed_updates : List Step → Tid → List Update
committed_updates steps x = flat_map (given x) steps

-- what a read of the transaction sees: the updates of its snapshot in order, followed by its own
abbrev pub seen_updates : Tid → List Step → List Update
seen_updates x steps = flat_map (committed_updates steps) (snapshot x steps) ++ own_updates x steps

-- a start of the transaction stands among the steps
abbrev pub IsStarted : Tid → List Step → Type 0
IsStarted x steps = (site : SiteId) × Contains steps (Start x site)

-- a commit of the transaction stands among the steps
abbrev pub IsCommitted : Tid → List Step → Type 0
IsCommitted x steps = (updates : List Update) × Contains steps (Commit x updates)
