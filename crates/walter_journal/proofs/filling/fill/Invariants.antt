use Rattle.std.proofs.Common.{◌≡◌, ◌+◌, ◌-◌, ◌≤◌, max}
use Rattle.walter_disk.specs.Images.{Follows, LeavesOnly}
use Rattle.walter_journal.specs.Zeros.{filled_disk, writes_of, Grows, HasGrown}
use Rattle.walter_journal.proofs.filling.fill.Given as goal

abbrev pub invariant-loop-at : goal.invariant-loop-at
invariant-loop-at g l = record {
  behind : (g.D.Disk.known l.fn.disk).size ≤ l.at;
  within : l.at ≤ max (g.D.Disk.known l.fn.disk).size l.to;
  known : g.D.Disk.known l.disk ≡ filled_disk l.at (g.D.Disk.known l.fn.disk);
  reaches : g.D.Disk.room_end l.fn.disk ≤ g.D.Disk.room_end l.disk;
  calls : g.D.Disk.room_calls l.fn.disk + writes_of (l.to - l.at) ≤ g.D.Disk.room_calls l.disk + writes_of (l.to - (g.D.Disk.known l.fn.disk).size);
  device : g.D.Disk.device_calls l.disk + writes_of (l.to - l.at) ≡ g.D.Disk.device_calls l.fn.disk + writes_of (l.to - (g.D.Disk.known l.fn.disk).size);
  crash : Follows (Grows (g.D.Disk.known l.fn.disk).size l.to) (g.D.Disk.may_leave l.fn.disk) (g.D.Disk.may_leave l.disk);
  since : LeavesOnly g.D.Disk.moment g.D.Disk.left_since l.fn.disk l.disk (HasGrown (g.D.Disk.known l.fn.disk).size l.to (g.D.Disk.may_leave l.fn.disk));
}

abbrev pub decreases-loop-at : goal.decreases-loop-at
decreases-loop-at g l = l.to - l.at
