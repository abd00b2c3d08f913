use Rattle.std.proofs.Common.{◌≡◌, ◌++◌, vec_capacity}
use Rattle.walter_cluster.proofs.opening.push_all.Given as goal

abbrev pub invariant-loop-disk : goal.invariant-loop-disk
invariant-loop-disk g l = record {
  disks : l.disks.items ≡ l.initial.disks.items ++ l.yielded;
  room : vec_capacity l.disks ≡ vec_capacity l.initial.disks;
}
