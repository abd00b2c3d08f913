use Rattle.std.proofs.Common.{◌≡◌, List, false}
use Rattle.walter_cell.specs.Lines.{CanFail}
use Rattle.walter_cluster.specs.Benches.{AreAllConnected, IsOf, Keeps, trails_of}
use Rattle.walter_cluster.specs.Moments.{KeepsArms, moment_of}
use Rattle.walter_cluster.specs.Shared.{CanWork}
use Rattle.walter_link.specs.Pumps.{PumpValue}
use Rattle.walter_workers.specs.Rounds.{HaveAllCalled, Moves}
use Rattle.walter_workers.proofs.rounds.turn_all.Given as goal

abbrev pub invariant-loop-number : goal.invariant-loop-number
invariant-loop-number g l = record {
  keeps : Keeps g.D.Disk l.initial.bench l.bench;
  arms : KeepsArms (moment_of g.D.Disk l.initial.bench.cells) (moment_of g.D.Disk l.bench.cells);
  of : IsOf l.scenario l.bench;
  connected : AreAllConnected l.scenario l.bench;
  works : (pumps : List PumpValue) → CanWork g.D.Disk l.scenario l.initial.bench pumps
      → CanWork g.D.Disk l.scenario l.bench pumps;
  moves : Moves (CanFail g.S.Source g.K.Sink) (trails_of l.initial.bench.cells) (trails_of l.bench.cells) l.moved;
  called : l.moved ≡ false
      → HaveAllCalled (CanFail g.S.Source g.K.Sink) l.scenario (trails_of l.bench.cells) l.number;
}
