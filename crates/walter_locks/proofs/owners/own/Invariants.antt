use Rattle.std.proofs.Common.{◌≡◌, ◌≤◌, ◌+◌, take, Some, if◌then◌else◌}
use Rattle.std.specs.Map.{lookup}
use Rattle.indexmap.specs.IndexMap.{spare}
use Rattle.walter_base.specs.declared.names.ObjId.{ObjId}
use Rattle.walter_base.specs.Names.{same_object}
use Rattle.walter_rules.specs.Slow.{has_object}
use Rattle.walter_locks.proofs.owners.own.Given as goal

abbrev pub invariant-loop-oid : goal.invariant-loop-oid
invariant-loop-oid l = record {
  owners : (o : ObjId) → lookup (same_object o) l.owners.entries ≡ (if has_object o (take l.oid-index l.objects) then Some l.tid else lookup (same_object o) l.initial.owners.entries);
  room : spare l.initial.owners ≤ spare l.owners + l.oid-index;
}
