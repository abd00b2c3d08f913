use Rattle.std.proofs.Common.{take}
use Rattle.std.specs.Prelude.{Contains}
use Rattle.walter_base.specs.declared.names.ObjId.{ObjId}
use Rattle.walter_base.specs.Values.{write_set}
use Rattle.walter_audit.proofs.conflicting.do_conflict.Given as goal

-- none of those that are written so far is written by the others
abbrev pub invariant-loop-update : goal.invariant-loop-update
invariant-loop-update l = (oid : ObjId) → Contains (write_set (take l.update-index l.updates)) oid
    → ¬ Contains (write_set l.others) oid
