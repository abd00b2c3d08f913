use Rattle.std.proofs.Common.{take}
use Rattle.std.specs.Prelude.{Contains}
use Rattle.walter_base.specs.Values.{write_set}
use Rattle.walter_audit.proofs.conflicting.does_write.Given as goal

-- none so far writes it
abbrev pub invariant-loop-update : goal.invariant-loop-update
invariant-loop-update l = ¬ Contains (write_set (take l.update-index l.updates)) l.oid
