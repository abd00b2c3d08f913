use Rattle.std.proofs.Common.{take}
use Rattle.walter_world.specs.Records.{IsTold, records_of}
use Rattle.walter_world.proofs.replaying.told_by.Given as goal

abbrev pub invariant-loop-entry : goal.invariant-loop-entry
invariant-loop-entry l = IsTold l.catalog l.fn.id (records_of (take l.entry-index l.entries)) l.told
