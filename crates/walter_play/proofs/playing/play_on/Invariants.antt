use Rattle.std.proofs.Common.{◌++◌, map, take}
use Rattle.walter_cluster.specs.Benches.{Keeps, IsOf, IsToldAt, AreAllConnected, AreMet}
use Rattle.walter_cluster.specs.Pumps.{ArePumps}
use Rattle.walter_scenario.specs.declared.scenario.Arm.{Arm}
use Rattle.walter_scenario.specs.declared.scenario.Step.TheVariants as step
use Rattle.walter_play.specs.Scripts.{Plays, scene_of}
use Rattle.walter_play.proofs.playing.play_on.Given as goal

abbrev pub invariant-loop-arm : goal.invariant-loop-arm
invariant-loop-arm g l = record {
  keeps : Keeps g.D.Disk l.fn.bench l.bench;
  played : Plays (λ i. IsToldAt g.D.Disk i l.fn.bench) l.scenario
      (map (λ (arm : Arm). step.Arm arm) (take l.arm-index l.scenario.arms))
      (scene_of g.D.Disk l.fn.bench.cells l.fn.pumps) (scene_of g.D.Disk l.bench.cells l.fn.pumps);
}

abbrev pub invariant-loop-step : goal.invariant-loop-step
invariant-loop-step g l = record {
  keeps : Keeps g.D.Disk l.fn.bench l.bench;
  of : IsOf l.scenario l.bench;
  connected : AreAllConnected l.scenario l.bench;
  met : AreMet l.bench;
  pumps : ArePumps l.bench.cells l.pumps;
  played : Plays (λ i. IsToldAt g.D.Disk i l.fn.bench) l.scenario
      (map (λ (arm : Arm). step.Arm arm) l.scenario.arms ++ take l.step-index l.scenario.steps)
      (scene_of g.D.Disk l.fn.bench.cells l.fn.pumps) (scene_of g.D.Disk l.bench.cells l.pumps);
}
