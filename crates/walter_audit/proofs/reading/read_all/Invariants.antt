use Rattle.walter_audit.specs.Reading.{contents_of}
use Rattle.walter_audit.proofs.Readers.{AreReadTo}
use Rattle.walter_audit.proofs.reading.read_all.Given as goal

-- the sites so far are read
abbrev pub invariant-loop-number : goal.invariant-loop-number
invariant-loop-number l = AreReadTo l.catalog (contents_of l.contents) l.number l.journals.items
