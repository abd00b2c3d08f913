use Rattle.std.proofs.Common.{◌≡◌, length, All}
use Rattle.std.specs.Prelude.{flat_map}
use Rattle.walter_fields.specs.Cursors.{Takes}
use Rattle.walter_base.specs.Sizes.{HasShortValue}
use Rattle.walter_txcode.specs.Spelling.{update_spelled, IsUpdate}
use Rattle.walter_txcode.proofs.updates.read_each.Given as goal

abbrev pub invariant-loop : goal.invariant-loop
invariant-loop l = record {
  taken : Takes l.fn.cursor l.cursor (flat_map update_spelled l.updates.items);
  counted : length l.updates.items ≡ l.counter;
  range : All IsUpdate l.updates.items;
  short : All HasShortValue l.updates.items;
}
