use Rattle.std.proofs.Common.{◌∙◌, ◌++◌, sym, subst}
use Rattle.std.proofs.lemmas.Result.{on_ok_weaker}
use Rattle.walter_cluster.specs.Benches.{IsToldAt}
use Rattle.walter_cluster.specs.Moments.{moment_of}
use Rattle.walter_cluster.specs.Pumps.{ArePumps}
use Rattle.walter_cluster.proofs.Pumps.{pumps_first}
use Rattle.walter_play.specs.Scripts.{Plays, all_steps, arms_of, scene_of}
use Rattle.walter_play.proofs.Arming.{none_armed}
use Rattle.walter_play.proofs.playing.play.Goals as goal

pub play_on-requires-clause-pumps : goal.play_on-requires-clause-pumps
play_on-requires-clause-pumps g c =
    subst (λ ps. ArePumps c.args.bench.now.cells ps) (sym (c.deref_mut.ensures.value ∙ c.in_ok-pumps.ensures))
    (pumps_first c.args.scenario.now c.args.bench.now c.requires.of)

pub returns-clause-played : goal.returns-clause-played
returns-clause-played g c =
    let t = c.args.scenario.now in
    on_ok_weaker c.play_on.result
    (λ plays. (
      c.play_on.new.pumps,
      subst (λ ps. Plays (λ i. IsToldAt g.D.Disk i c.args.bench.now) t (all_steps t) (scene_of g.D.Disk c.args.bench.now.cells ps)
          (scene_of g.D.Disk c.play_on.new.bench.cells c.play_on.new.pumps)) (c.deref_mut.ensures.value ∙ c.in_ok-pumps.ensures) plays,
    )) c.play_on.ensures.played

pub returns-in_err-pumps-clause-arms : goal.returns-in_err-pumps-clause-arms
returns-in_err-pumps-clause-arms g c =
    none_armed (moment_of g.D.Disk c.args.bench.now.cells) (c.args.scenario.now.arms ++ arms_of c.args.scenario.now.steps)
