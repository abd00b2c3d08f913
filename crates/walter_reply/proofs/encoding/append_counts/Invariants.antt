use Rattle.std.proofs.Common.{◌≡◌, ◌+◌, ◌*◌, ◌++◌, length, take}
use Rattle.std.specs.Prelude.{flat_map}
use Rattle.walter_fields.specs.Spellings.{number_spelled}
use Rattle.walter_reply.specs.Sets.{entry_spelled}
use Rattle.walter_reply.proofs.encoding.append_counts.Given as goal

-- how many entries there are and those so far were written
abbrev pub invariant-loop-entry : goal.invariant-loop-entry
invariant-loop-entry l = record {
  bytes : l.out.bytes ≡ l.fn.out.bytes ++ (number_spelled 4 (length l.counts) ++ flat_map entry_spelled (take l.entry-index l.counts));
  room : l.out.room + (4 + 16 * l.entry-index) ≡ l.fn.out.room;
}
