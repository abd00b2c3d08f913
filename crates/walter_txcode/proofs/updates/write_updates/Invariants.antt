use Rattle.std.proofs.Common.{◌≡◌, ◌+◌, ◌++◌, length, take, drop}
use Rattle.std.specs.Prelude.{All, flat_map, sum_by}
use Rattle.walter_base.specs.Sizes.{size_of_update}
use Rattle.walter_fields.specs.Spellings.{number_spelled}
use Rattle.walter_txcode.specs.Spelling.{update_spelled, IsUpdate}
use Rattle.walter_txcode.proofs.updates.write_updates.Given as goal

-- the count and the updates so far were written, and there is room for the others
abbrev pub invariant-loop-update : goal.invariant-loop-update
invariant-loop-update l = record {
  bytes : l.out.bytes ≡ l.fn.out.bytes ++ (number_spelled 2 (length l.updates) ++ flat_map update_spelled (take l.update-index l.updates));
  room : l.out.room + (2 + sum_by size_of_update l.updates) ≡ l.fn.out.room + sum_by size_of_update (drop l.update-index l.updates);
  ranges : All IsUpdate (take l.update-index l.updates);
}
