use Rattle.walter_audit.proofs.Queued.{AreStartsTo}
use Rattle.walter_audit.proofs.queueing.starts_of.Given as goal

-- behind each front the starts of the commits so far
abbrev pub invariant-loop-journaled : goal.invariant-loop-journaled
invariant-loop-journaled l = AreStartsTo l.catalog l.fn.site l.records l.journaled-index l.starts.items
