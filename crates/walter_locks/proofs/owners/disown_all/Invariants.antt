use Rattle.std.proofs.Common.{◌≡◌, ◌≤◌, take, None, if◌then◌else◌}
use Rattle.std.specs.Map.{lookup}
use Rattle.indexmap.specs.IndexMap.{spare}
use Rattle.walter_base.specs.declared.names.ObjId.{ObjId}
use Rattle.walter_base.specs.Names.{same_object}
use Rattle.walter_locks.specs.Parts.{is_locked_by}
use Rattle.walter_locks.proofs.owners.disown_all.Given as goal

abbrev pub invariant-loop-place : goal.invariant-loop-place
invariant-loop-place l = record {
  owners : (o : ObjId) → lookup (same_object o) l.owners.entries ≡ (if is_locked_by l.coordinator (take l.place l.locks.entries) o then None else lookup (same_object o) l.initial.owners.entries);
  room : spare l.initial.owners ≤ spare l.owners;
}
