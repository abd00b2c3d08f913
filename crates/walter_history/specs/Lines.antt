-- A history as the list of its lines: each object that has a row, with what is kept of it and the room for more; and
-- the vector at which it was folded last.
use Rattle.std.specs.Prelude.{ℕ, ◌-◌, ◌≤◌, min, List, All, length, map, take, Option, IsSome, vec_len, vec_capacity}
use Rattle.std.specs.Option.{option_map_or}
use Rattle.std.specs.Map.{lookup}
use Rattle.std.specs.Global.{Vec}
use Rattle.walter_base.specs.declared.names.ObjId.{ObjId}
use Rattle.walter_base.specs.declared.update.Row.{Row}
use Rattle.walter_base.specs.Names.{same_object}
use Rattle.walter_history.specs.declared.line.Line.{Line as Held}
use Rattle.walter_history.specs.Kept.{Kept, none_kept, IsKeptOf, StandsForRows}

-- what is kept of an object, and how many more rows can be appended without memory
pub record Line : Type 0 where
  pub kept : Kept
  pub room : ℕ

pub record Table : Type 0 where
  pub floor : List ℕ
  pub lines : List (ObjId × Line)

-- the line of the object, if it has one
abbrev pub line_of : List (ObjId × Line) → ObjId → Option Line
line_of lines oid = lookup (same_object oid) lines

-- the object has a row, maybe an empty one
abbrev pub IsOpen : Table → ObjId → Type 0
IsOpen table oid = IsSome (line_of table.lines oid)

-- what is kept of the object, nothing where it has no row
abbrev pub kept_in : List (ObjId × Line) → ObjId → Kept
kept_in lines oid = option_map_or (λ line. line.kept) (line_of lines oid) none_kept

abbrev pub kept_of : Table → ObjId → Kept
kept_of table oid = kept_in table.lines oid

-- the room of the object, 0 where it has no row
abbrev pub room_in : List (ObjId × Line) → ObjId → ℕ
room_in lines oid = option_map_or (λ line. line.room) (line_of lines oid) 0

abbrev pub room_of : Table → ObjId → ℕ
room_of table oid = room_in table.lines oid

-- what the fields of a line keep
abbrev pub kept_by : Held → Kept
kept_by held = record {
  value = held.value;
  versions = held.versions.versions;
  writes = held.writes.items;
  steps = held.steps.rows;
}

abbrev pub spare_of : {X : Type 0} → Vec X → ℕ
spare_of v = vec_capacity v - vec_len v

abbrev pub line_in : Held → Line
line_in held = record {
  kept = kept_by held;
  room = min held.versions.room (min (spare_of held.writes) held.steps.room);
}

abbrev pub lines_in : List (ObjId × Held) → List (ObjId × Line)
lines_in entries = map (λ e. (e.0, line_in e.1)) entries

-- there are so many lines, and what each of the first so many keeps is as P says
pub record AreFirst (P : Kept → Type 0) (n : ℕ) (entries : List (ObjId × Held)) : Type 0 where
  pub within : n ≤ length entries
  pub each : All (λ e. P (kept_by e.1)) (take n entries)

-- what is kept of each object is of it
abbrev pub AreOwn : List (ObjId × Line) → Type 0
AreOwn lines = (oid : ObjId) → IsKeptOf oid (kept_in lines oid)

-- at the floor the new lines stand for what the old ones do, and have no less room
pub record StandAs (floor : List ℕ) (old new : List (ObjId × Line)) : Type 0 where
  pub stands : (oid : ObjId) (rows : List Row)
      → StandsForRows oid floor (kept_in old oid) rows → StandsForRows oid floor (kept_in new oid) rows
  pub still : (oid : ObjId) → IsSome (line_of old oid) → IsSome (line_of new oid)
  pub room : (oid : ObjId) → room_in old oid ≤ room_in new oid
