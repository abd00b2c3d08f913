use Rattle.std.proofs.Common.{◌≡◌, take}
use Rattle.std.specs.Prelude.{flat_map}
use Rattle.walter_audit.specs.Journals.{own_of}
use Rattle.walter_audit.proofs.told.owns_of.Given as goal

-- the own commits so far
abbrev pub invariant-loop-journaled : goal.invariant-loop-journaled
invariant-loop-journaled l = l.owns.items ≡ flat_map own_of (take l.journaled-index l.records)
