-- Which conflict a commit meets first (docs/SITE.md, "Conflicts").
use Rattle.std.specs.Prelude.{ℕ, List, filter_map, slice_get, Option}
use Rattle.walter_base.specs.declared.names.ObjId.{ObjId}
use Rattle.walter_base.specs.declared.names.Tid.{Tid}
use Rattle.walter_base.specs.declared.names.Version.{Version}
use Rattle.walter_base.specs.declared.transaction.Conflict.{Conflict}
use Rattle.walter_base.specs.Conflicts.{conflict_on}

-- by the versions of each object and its lock, what stands in the way of a commit of the object
abbrev pub conflict_at : (ObjId → List Version) → (ObjId → Option Tid) → List ℕ → ObjId → Option Conflict
conflict_at versions lock snapshot oid = conflict_on snapshot (versions oid) (lock oid) oid

-- of these objects the first that meets one
abbrev pub first_conflict : (ObjId → List Version) → (ObjId → Option Tid) → List ℕ → List ObjId → Option Conflict
first_conflict versions lock snapshot objects = slice_get (filter_map (conflict_at versions lock snapshot) objects) 0
