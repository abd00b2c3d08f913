use Rattle.std.proofs.Common.{◌≡◌, ◌<◌, ◌+◌, length, take}
use Rattle.walter_rules.specs.Merges.{put_out_to}
use Rattle.walter_world.proofs.posted.packet_to.Given as goal

abbrev pub invariant-loop-entry : goal.invariant-loop-entry
invariant-loop-entry l = record {
  some : 0 < l.left;
  counted : l.left + length (put_out_to l.to (take l.entry-index l.entries)) ≡ l.number;
}
