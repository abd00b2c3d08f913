use Rattle.std.specs.HashMap.{get}
use Rattle.walter_base.specs.Names.{same_object}
use Rattle.walter_audit.proofs.Lasting.{SeeSoFar}
use Rattle.walter_audit.proofs.looking.see_last.Given as goal

-- the commits so far see the last writers before them
abbrev pub invariant-loop-taken : goal.invariant-loop-taken
invariant-loop-taken l = SeeSoFar l.order l.taken-index (λ oid. get same_object l.last oid)
