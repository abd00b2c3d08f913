-- What stands in the way of a commit (docs/SITE.md, "Conflicts"): a version outside the snapshot, or else a lock.
use Rattle.std.specs.Prelude.{ℕ, nat_le, Bool, not, List, filter, slice_get, Option, Some, None, option_map}
use Rattle.walter_base.specs.declared.names.ObjId.{ObjId}
use Rattle.walter_base.specs.declared.names.Tid.{Tid}
use Rattle.walter_base.specs.declared.names.Version.{Version}
use Rattle.walter_base.specs.declared.transaction.Conflict.{Conflict}
use Rattle.walter_base.specs.declared.transaction.Conflict.TheVariants.{Modified, Locked}
use Rattle.walter_base.specs.Vectors.{entry_at}

-- whether the vector sees the version
abbrev pub sees_version : List ℕ → Version → Bool
sees_version vector version = nat_le version.seq (entry_at vector version.site)

-- the first of the versions that the vector doesn't see
abbrev pub first_outside : List ℕ → List Version → Option Version
first_outside vector versions = slice_get (filter (λ version. not (sees_version vector version)) versions) 0

-- a version stands before a lock
abbrev pub conflict_over : ObjId → Option Version → Option Tid → Option Conflict
conflict_over oid (Some version) owner = Some (Modified oid version)
conflict_over oid None owner = option_map (λ tid. Locked oid tid) owner

-- what stands in the way of a commit of the object, that has these versions and this lock
abbrev pub conflict_on : List ℕ → List Version → Option Tid → ObjId → Option Conflict
conflict_on snapshot versions owner oid = conflict_over oid (first_outside snapshot versions) owner
