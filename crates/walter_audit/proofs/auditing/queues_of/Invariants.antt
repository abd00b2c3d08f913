use Rattle.walter_audit.specs.Journals.{journals_of}
use Rattle.walter_audit.proofs.Queued.{AreQueuesTo}
use Rattle.walter_audit.proofs.auditing.queues_of.Given as goal

-- the items of the sites so far
abbrev pub invariant-loop-number : goal.invariant-loop-number
invariant-loop-number l = AreQueuesTo l.catalog (journals_of l.journals) l.number l.queues.items
