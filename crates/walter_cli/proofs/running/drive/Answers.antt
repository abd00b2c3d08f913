use Rattle.std.proofs.Common.{List, subst, arith, inl, inr}
use Rattle.walter_cell.proofs.Meeting.{on_ok}
use Rattle.walter_cluster.specs.Moments.{moment_of}
use Rattle.walter_play.specs.Scripts.{ArmsMore}
use Rattle.walter_scenario.specs.declared.scenario.Arm.{Arm}
use Rattle.walter_cli.proofs.Driven.{arms_alone, both_ok, no_steps, steps_drive, threads_drive}
use Rattle.walter_cli.proofs.running.drive.Goals as goal

-- threads drove it; neither a source in memory fails nor a sink that keeps nothing
pub returns-in-Run-clause-driven : goal.returns-in-Run-clause-driven
returns-in-Run-clause-driven g c =
    both_ok c.run.result.1 _ _ _
    (threads_drive c.args.command.now c.in-Run.trace c.in-Run.disks _ _ c.args.scenario.now _ _ c.in-Run.is c.requires.driven
    (λ failed. elim failed [ inl rose ↦ (let r = rose.1 in omega (arith, r)) | inr rose ↦ (let r = rose.1 in omega (arith, r)) ]))
    c.run.ensures.driven c.run.ensures.armed

-- and no step arms more
pub returns-in-Run-clause-arms : goal.returns-in-Run-clause-arms
returns-in-Run-clause-arms g c =
    let t = c.args.scenario.now in
    subst (λ (arms : List Arm). ArmsMore (moment_of g.D.Disk c.args.bench.cells) (moment_of g.D.Disk c.run.result.0.cells) arms)
    (arms_alone t.arms t.steps (no_steps c.args.command.now c.in-Run.trace c.in-Run.disks t c.in-Run.is c.requires.driven)) c.run.ensures.arms

-- its steps were taken
pub returns-clause-driven : goal.returns-clause-driven
returns-clause-driven g c =
    on_ok c.play-played.result _ _
    (steps_drive c.args.command.now _ c.args.scenario.now _ _ c.requires.running c.in_default.not-Run) c.play-played.ensures.played
