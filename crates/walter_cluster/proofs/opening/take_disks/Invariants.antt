use Rattle.std.proofs.Common.{◌≡◌, ◌++◌, Some, map, vec_capacity}
use Rattle.walter_cluster.specs.Benches.{disks_of}
use Rattle.walter_cluster.proofs.opening.take_disks.Given as goal

abbrev pub invariant-loop-cell : goal.invariant-loop-cell
invariant-loop-cell g l = record {
  disks : map (λ d. Some d) l.back.items ≡ map (λ d. Some d) l.initial.back.items ++ disks_of l.yielded;
  room : vec_capacity l.back ≡ vec_capacity l.initial.back;
}
