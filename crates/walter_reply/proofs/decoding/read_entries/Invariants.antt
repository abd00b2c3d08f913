use Rattle.std.proofs.Common.{◌≡◌, length}
use Rattle.std.specs.Prelude.{flat_map}
use Rattle.walter_fields.specs.Cursors.{Takes}
use Rattle.walter_reply.specs.Sets.{entry_spelled, AreEntries}
use Rattle.walter_reply.proofs.decoding.read_entries.Given as goal

abbrev pub invariant-loop : goal.invariant-loop
invariant-loop l = record {
  taken : Takes l.fn.cursor l.cursor (flat_map entry_spelled l.entries.items);
  counted : length l.entries.items ≡ l.counter;
  right : AreEntries l.entries.items;
}
