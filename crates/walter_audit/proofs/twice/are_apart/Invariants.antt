use Rattle.walter_audit.proofs.Names.{AreKept}
use Rattle.walter_audit.proofs.twice.are_apart.Given as goal

-- the set has the name of each own commit so far, and they are of different transactions
abbrev pub invariant-loop-journaled : goal.invariant-loop-journaled
invariant-loop-journaled l = AreKept l.records l.names l.journaled-index
