use Rattle.walter_cluster.specs.Benches.{AreAllConnected, Keeps, trails_of}
use Rattle.walter_cluster.specs.Moments.{KeepsArms, moment_of}
use Rattle.walter_cluster.specs.Shared.{CanWork}
use Rattle.walter_workers.specs.Rounds.{room_in}
use Rattle.walter_workers.proofs.rounds.finish.Given as goal

abbrev pub invariant-loop : goal.invariant-loop
invariant-loop g l = record {
  keeps : Keeps g.D.Disk l.initial.bench l.bench;
  arms : KeepsArms (moment_of g.D.Disk l.initial.bench.cells) (moment_of g.D.Disk l.bench.cells);
  works : CanWork g.D.Disk l.scenario l.bench l.pumps;
  connected : AreAllConnected l.scenario l.bench;
}

abbrev pub decreases-loop : goal.decreases-loop
decreases-loop g l = room_in (trails_of l.bench.cells)
