-- The quick look for conflicts: along an order, each commit sees the last writer before it of each object that it
-- writes (docs/AUDIT.md, "How it is found").
use Rattle.std.specs.Prelude.{◌≤◌, ℕ, List, [], ◌∷◌, Contains, Option, None, Some, if◌then◌else◌}
use Rattle.walter_base.specs.declared.names.ObjId.{ObjId}
use Rattle.walter_base.specs.declared.names.Version.{Version}
use Rattle.walter_base.specs.Values.{write_set}
use Rattle.walter_base.specs.Vectors.{entry_at}
use Rattle.walter_rules.specs.Slow.{has_object}
use Rattle.walter_audit.specs.Orders.{Starts, Commits, Arrives, Taken}

-- a start sees a version, if there is one
abbrev pub SeesLast : List ℕ → Option Version → Type 0
SeesLast start None = Unit {0}
SeesLast start (Some v) = v.seq ≤ entry_at start v.site

-- the last writer of each object, behind one more that was taken
abbrev pub last_behind : (ObjId → Option Version) → Taken → ObjId → Option Version
last_behind last (i, Commits place seq tx) oid =
    if has_object oid (write_set tx.updates) then Some (record { site = i; seq = seq }) else last oid
last_behind last (i, Starts place tx) oid = last oid
last_behind last (i, Arrives place j seq) oid = last oid

abbrev pub last_after : (ObjId → Option Version) → List Taken → ObjId → Option Version
last_after last [] oid = last oid
last_after last (taken ∷ rest) oid = last_after (last_behind last taken) rest oid

-- a commit sees the last writer of each object that it writes
abbrev pub SeesAt : (ObjId → Option Version) → Taken → Type 0
SeesAt last (i, Commits place seq tx) =
    (oid : ObjId) → Contains (write_set tx.updates) oid → SeesLast tx.start (last oid)
SeesAt last (i, Starts place tx) = Unit {0}
SeesAt last (i, Arrives place j seq) = Unit {0}

-- and so does each, those before it among the writers
abbrev pub SeeLast : (ObjId → Option Version) → List Taken → Type 0
SeeLast last [] = Unit {0}
SeeLast last (taken ∷ rest) = SeesAt last taken × SeeLast (last_behind last taken) rest
