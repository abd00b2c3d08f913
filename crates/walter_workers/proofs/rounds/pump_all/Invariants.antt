use Rattle.std.proofs.Common.{◌≡◌, false}
use Rattle.walter_cluster.specs.Benches.{Keeps, trails_of}
use Rattle.walter_cluster.specs.Moments.{KeepsArms, moment_of}
use Rattle.walter_cluster.specs.Shared.{CanWork}
use Rattle.walter_workers.specs.Rounds.{AreDone, Moves}
use Rattle.walter_workers.proofs.rounds.pump_all.Given as goal

abbrev pub invariant-loop-site : goal.invariant-loop-site
invariant-loop-site g l = record {
  keeps : Keeps g.D.Disk l.initial.bench l.bench;
  arms : KeepsArms (moment_of g.D.Disk l.initial.bench.cells) (moment_of g.D.Disk l.bench.cells);
  works : CanWork g.D.Disk l.scenario l.bench l.pumps;
  moves : Moves ⊥ (trails_of l.initial.bench.cells) (trails_of l.bench.cells) l.moved;
  done : l.moved ≡ false → AreDone g.D.Disk l.scenario l.bench l.site;
}
