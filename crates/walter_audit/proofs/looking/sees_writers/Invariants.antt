use Rattle.std.proofs.Common.{take}
use Rattle.std.specs.HashMap.{get}
use Rattle.std.specs.Prelude.{Contains}
use Rattle.walter_base.specs.declared.names.ObjId.{ObjId}
use Rattle.walter_base.specs.Names.{same_object}
use Rattle.walter_base.specs.Values.{write_set}
use Rattle.walter_audit.specs.Lasts.{SeesLast}
use Rattle.walter_audit.proofs.looking.sees_writers.Given as goal

-- the last writers of what is written so far are seen
abbrev pub invariant-loop-update : goal.invariant-loop-update
invariant-loop-update l = (oid : ObjId) → Contains (write_set (take l.update-index l.updates)) oid
    → SeesLast l.start (get same_object l.last oid)
