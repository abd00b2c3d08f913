use Rattle.std.specs.HashMap.{get}
use Rattle.walter_base.specs.Names.{same_object}
use Rattle.walter_audit.proofs.Lasting.{ArePut}
use Rattle.walter_audit.proofs.looking.put_writer.Given as goal

-- the version is that of the last writer of what is written so far
abbrev pub invariant-loop-update : goal.invariant-loop-update
invariant-loop-update l = ArePut l.version (λ oid. get same_object l.initial.last oid) l.updates l.update-index
    (λ oid. get same_object l.last oid)
