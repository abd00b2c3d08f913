-- What a history with one more step is, from the lemmas of OneMore and Snapshots.
use Rattle.walter_psi.proofs.OneMore.{legal_one_more, started_snoc, committed_snoc}
use Rattle.walter_psi.proofs.Snapshots.{snapshot_here, snapshot_kept}
use Rattle.walter_psi.proofs.laws.one_more_step.Goals as goal
use Rattle.std.proofs.Common.{[], ◌∷◌}

pub returns-clause-legal : goal.returns-clause-legal
returns-clause-legal c = legal_one_more

pub returns-clause-snapshot_here : goal.returns-clause-snapshot_here
returns-clause-snapshot_here c = λ x site steps. snapshot_here x site steps []

pub returns-clause-snapshot_kept : goal.returns-clause-snapshot_kept
returns-clause-snapshot_kept c = λ x steps step. snapshot_kept x steps (step ∷ [])

pub returns-clause-started : goal.returns-clause-started
returns-clause-started c = started_snoc

pub returns-clause-committed : goal.returns-clause-committed
returns-clause-committed c = committed_snoc
