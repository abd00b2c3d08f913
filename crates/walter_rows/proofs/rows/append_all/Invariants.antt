use Rattle.std.proofs.Common.{◌≡◌, ◌++◌, List, map, length, take, drop}
use Rattle.walter_base.specs.declared.names.ObjId.{ObjId}
use Rattle.walter_base.specs.declared.update.Row.{Row}
use Rattle.walter_history.specs.Kept.{StandsForRows}
use Rattle.walter_history.specs.Lines.{kept_of}
use Rattle.walter_rows.specs.Rows.{rows_on, HaveRoom}
use Rattle.walter_rows.proofs.rows.append_all.Given as goal

-- the rows so far stand behind those that were there, and there is room for those that are left
abbrev pub invariant-loop-row : goal.invariant-loop-row
invariant-loop-row l = record {
  stands : (oid : ObjId) (told : List Row) → StandsForRows oid l.initial.history.floor (kept_of l.initial.history oid) told
      → StandsForRows oid l.initial.history.floor (kept_of l.history oid) (told ++ rows_on oid (take (length l.yielded) l.fn.rows.items));
  floor : l.history.floor ≡ l.initial.history.floor;
  room : HaveRoom l.history (map (λ (row : Row). row.update) (drop (length l.yielded) l.fn.rows.items));
}
