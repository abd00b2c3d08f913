use Rattle.std.proofs.Common.{◌≡◌, ◌≤◌, length, vec_capacity}
use Rattle.std.specs.Prelude.{IfOk, IfErr}
use Rattle.walter_inspect.specs.Inspections.{AreAllRead, AreOnlyRead, IsFirstUnread}
use Rattle.walter_inspect.proofs.inspecting.read_contents.Given as goal

abbrev pub invariant-loop-disk : goal.invariant-loop-disk
invariant-loop-disk g l = record {
  only : AreOnlyRead g.D.Disk l.yielded l.back.items;
  read : IfOk l.read (λ contents. AreAllRead g.D.Disk l.capacity l.sites l.yielded l.back.items contents.items);
  unread : IfErr l.read (IsFirstUnread g.D.Disk l.capacity l.sites l.yielded l.back.items);
  next : l.next ≡ length l.yielded;
  room : length l.fn.disks.items ≤ vec_capacity l.back;
}
