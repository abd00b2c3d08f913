use Rattle.std.proofs.Common.{◌≡◌, length, take}
use Rattle.walter_cluster.specs.Builds.{AreUnread}
use Rattle.walter_play.proofs.lines.open_lines.Given as goal

abbrev pub invariant-loop-client : goal.invariant-loop-client
invariant-loop-client l = record {
  long : length l.lines.items ≡ l.client-index;
  unread : AreUnread (take l.client-index l.clients) l.lines.items;
}
