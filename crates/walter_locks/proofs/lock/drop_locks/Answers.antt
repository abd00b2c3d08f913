use Rattle.std.proofs.Common.{rules}
use Rattle.indexmap.proofs.CallerLemmas.{filter-RetainsPairs}
use Rattle.walter_locks.proofs.lock.drop_locks.Goals as goal

pub returns-clause-others : goal.returns-clause-others
returns-clause-others c = filter-RetainsPairs _ _ _ (λ k v b w g call. search rules) _ _ c.retain.ensures.filtered
