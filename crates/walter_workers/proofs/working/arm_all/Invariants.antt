use Rattle.std.proofs.Common.{◌≡◌, ℕ, take}
use Rattle.walter_cluster.specs.Benches.{Keeps, calls_at, trails_of}
use Rattle.walter_cluster.specs.Moments.{moment_of}
use Rattle.walter_play.specs.Scripts.{AreArmedFirst}
use Rattle.walter_workers.proofs.working.arm_all.Given as goal

-- the disks are armed by the first ones, and nothing else has come
abbrev pub invariant-loop-arm : goal.invariant-loop-arm
invariant-loop-arm g l = record {
  keeps : Keeps g.D.Disk l.fn.bench l.bench;
  trails : trails_of l.bench.cells ≡ trails_of l.fn.bench.cells;
  calls : (i : ℕ) → calls_at g.D.Disk l.bench.cells i ≡ calls_at g.D.Disk l.fn.bench.cells i;
  armed : AreArmedFirst (moment_of g.D.Disk l.fn.bench.cells) (moment_of g.D.Disk l.bench.cells)
      (take l.arm-index l.scenario.arms);
}
