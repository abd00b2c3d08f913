-- What moves a count from one vector to another.
use Rattle.std.specs.Prelude.{◌^◌, ◌<ℤ◌, ◌-ℤ◌, ◌+ℤ◌, ℕ, ℤ, pos, List}
use Rattle.walter_base.specs.declared.names.ObjId.{ObjId}
use Rattle.walter_base.specs.declared.update.Row.{Row}
use Rattle.walter_base.specs.Values.{count_of}
use Rattle.walter_history.specs.Rows.{seen_updates}

-- what one vector sees of the steps, less what the other sees
abbrev pub moved : List ℕ → List ℕ → ObjId → ℕ → List Row → ℤ
moved from to oid id steps = count_of oid id (seen_updates to steps) -ℤ count_of oid id (seen_updates from steps)

-- a count that so many steps can move
abbrev pub LeavesRoom : ℤ → ℕ → Type 0
LeavesRoom count n = ((pos 0 -ℤ pos (2 ^ 63)) <ℤ (count -ℤ pos n)) × ((count +ℤ pos n) <ℤ pos (2 ^ 63))
