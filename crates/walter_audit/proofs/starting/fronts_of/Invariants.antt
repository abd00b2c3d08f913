use Rattle.walter_audit.proofs.Standing.{AreFrontsTo}
use Rattle.walter_audit.proofs.starting.fronts_of.Given as goal

-- the counts of the records so far, and those before
abbrev pub invariant-loop-journaled : goal.invariant-loop-journaled
invariant-loop-journaled l = AreFrontsTo l.sites l.site l.records l.journaled-index l.counts l.fronts.items
