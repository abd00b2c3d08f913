use Rattle.std.proofs.Common.{◌≡◌, ◌<◌, ◌+◌, length, take}
use Rattle.walter_world.proofs.Numbering.{sent_among}
use Rattle.walter_world.proofs.posted.nth_to.Given as goal

abbrev pub invariant-loop-site : goal.invariant-loop-site
invariant-loop-site l = record {
  some : 0 < l.left;
  counted : l.left + length (sent_among l.to l.entry.stamp (take l.site-index l.entry.came.sends)) ≡ l.number;
}
