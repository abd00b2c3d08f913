use Rattle.std.proofs.Common.{◌≡◌, map, take}
use Rattle.walter_rows.specs.Rows.{row_with}
use Rattle.walter_rows.proofs.rows.rows_for.Given as goal

-- the rows so far
abbrev pub invariant-loop-update : goal.invariant-loop-update
invariant-loop-update l = l.rows.items ≡ map (row_with l.version) (take l.update-index l.updates)
