use Rattle.std.proofs.Common.{◌≡◌, ◌+◌, ◌++◌, [], ℕ, List, map, take, subst, sym, ap, ◌∙◌, refl}
use Rattle.std.proofs.lemmas.List.{take_all, append-nil}
use Rattle.walter_cluster.specs.Benches.{IsToldAt}
use Rattle.walter_cluster.proofs.Keeping.{bench_self, bench_on, of_kept, connected_kept, told_kept}
use Rattle.walter_cluster.proofs.Pumps.{pumps_kept}
use Rattle.walter_cluster.specs.Moments.{Moment, moment_of}
use Rattle.walter_scenario.specs.declared.scenario.Arm.{Arm}
use Rattle.walter_scenario.specs.declared.scenario.Step.{Step}
use Rattle.walter_scenario.specs.declared.scenario.Step.TheVariants as step
use Rattle.walter_play.specs.Scripts.{Plays, Scene, scene_of}
use Rattle.walter_play.proofs.Arming.{some_armed}
use Rattle.walter_play.proofs.Steps.{plays_more, takes_told, arming_more, steps_more, arming_split, steps_split}
use Rattle.walter_play.proofs.playing.play_on.Goals as goal

pub loop-arm-init : goal.loop-arm-init
loop-arm-init g c = record { keeps = bench_self g.D.Disk c.args.bench.now; played = refl }

pub returns-in_err-arm-clause-keeps : goal.returns-in_err-arm-clause-keeps
returns-in_err-arm-clause-keeps g c =
    bench_on g.D.Disk c.args.bench.now c.loop-arm.bench c.arm.new.self c.loop-arm.invariant.keeps c.arm.ensures.keeps

pub returns-in_err-take_step-clause-keeps : goal.returns-in_err-take_step-clause-keeps
returns-in_err-take_step-clause-keeps g c =
    bench_on g.D.Disk c.args.bench.now c.loop-step.bench c.take_step.new.bench c.loop-step.invariant.keeps c.take_step.ensures.keeps

pub returns-in_err-arm-clause-arms : goal.returns-in_err-arm-clause-arms
returns-in_err-arm-clause-arms g c =
    let t = c.args.scenario.now in
    let i = c.loop-arm.arm-index in
    some_armed (λ j. IsToldAt g.D.Disk j c.args.bench.now) t (map (λ (arm : Arm). step.Arm arm) (take i t.arms)) _ (scene_of g.D.Disk c.args.bench.now.cells c.args.pumps.now)
    (scene_of g.D.Disk c.loop-arm.bench.cells c.args.pumps.now) (moment_of g.D.Disk c.arm.new.self.cells) (arming_split t.arms t.steps i) c.loop-arm.invariant.played
    (λ j. ap (λ (m : Moment). m.arms j) c.in_err-arm.ensures.kept)

pub loop-arm-preserved : goal.loop-arm-preserved
loop-arm-preserved g c =
    let e = c.in_ok-arm.ensures in
    let t = c.args.scenario.now in
    let i = c.loop-arm.arm-index in
    let inv = c.loop-arm.invariant in
    let old = c.args.bench.now in
    let mid = c.loop-arm.bench in
    let new = c.arm.new.self in
    let told = c.as_slice-arm-items.ensures in
    let arms = c.as_slice-arm-items.result.now in
    let known : ℕ → Type 0 = λ j. IsToldAt g.D.Disk j old in
    let first : Scene = scene_of g.D.Disk old.cells c.args.pumps.now in
    let now : Scene = scene_of g.D.Disk mid.cells c.args.pumps.now in
    let next : Scene = scene_of g.D.Disk new.cells c.args.pumps.now in
    let arming : List Arm → List Step = map (λ (arm : Arm). step.Arm arm) in
    let played = subst (λ (all : List Arm). Plays known t (arming (take i all)) first now) (sym told) inv.played in
    record {
      keeps = bench_on g.D.Disk old mid new inv.keeps e.keeps;
      played = subst (λ (all : List Arm). Plays known t (arming (take (i + 1) all)) first next) told
          (subst (λ (front : List Step). Plays known t front first next) (sym (arming_more arms i _ c.loop-arm-test.true))
          (plays_more known t (arming (take i arms)) _ first now next played (e.arms, refl)));
    }

pub loop-step-init : goal.loop-step-init
loop-step-init g c =
    let t = c.args.scenario.now in
    let inv = c.loop-arm.invariant in
    let old = c.args.bench.now in
    let mid = c.loop-arm.bench in
    let told = c.as_slice-arm-items.ensures in
    let i = c.loop-arm.arm-index in
    let arming : List Arm → List Step = map (λ (arm : Arm). step.Arm arm) in
    let whole : arming (take i t.arms) ≡ arming t.arms ++ [] =
    ap (λ (all : List Arm). arming (take i all)) (sym told)
    ∙ (ap arming (take_all i c.as_slice-arm-items.result.now c.loop-arm-test.false ∙ told) ∙ sym (append-nil (arming t.arms))) in
    record {
      keeps = inv.keeps;
      of = of_kept g.D.Disk old mid inv.keeps t c.requires.of;
      connected = connected_kept g.D.Disk old mid inv.keeps t c.requires.connected;
      met = inv.keeps.met c.requires.met;
      pumps = pumps_kept g.D.Disk old mid inv.keeps c.args.pumps.now c.requires.pumps;
      played = subst (λ (front : List Step). Plays (λ j. IsToldAt g.D.Disk j old) t front (scene_of g.D.Disk old.cells c.args.pumps.now)
          (scene_of g.D.Disk mid.cells c.args.pumps.now))
          whole inv.played;
    }

pub returns-in_err-take_step-clause-arms : goal.returns-in_err-take_step-clause-arms
returns-in_err-take_step-clause-arms g c =
    let t = c.args.scenario.now in
    let i = c.loop-step.step-index in
    let front = map (λ (arm : Arm). step.Arm arm) t.arms in
    some_armed (λ j. IsToldAt g.D.Disk j c.args.bench.now) t (front ++ take i t.steps) _ (scene_of g.D.Disk c.args.bench.now.cells c.args.pumps.now)
    (scene_of g.D.Disk c.loop-step.bench.cells c.loop-step.pumps) (moment_of g.D.Disk c.take_step.new.bench.cells) (steps_split front t.steps i)
    c.loop-step.invariant.played c.in_err-take_step.ensures.arms

pub loop-step-preserved : goal.loop-step-preserved
loop-step-preserved g c =
    let t = c.args.scenario.now in
    let i = c.loop-step.step-index in
    let inv = c.loop-step.invariant in
    let old = c.args.bench.now in
    let mid = c.loop-step.bench in
    let new = c.take_step.new.bench in
    let e = c.take_step.ensures in
    let told = c.as_slice-step-items.ensures in
    let steps = c.as_slice-step-items.result.now in
    let first : Scene = scene_of g.D.Disk old.cells c.args.pumps.now in
    let now : Scene = scene_of g.D.Disk mid.cells c.loop-step.pumps in
    let next : Scene = scene_of g.D.Disk new.cells c.take_step.new.pumps in
    let known : ℕ → Type 0 = λ j. IsToldAt g.D.Disk j old in
    let front = map (λ (arm : Arm). step.Arm arm) t.arms in
    let played = subst (λ (all : List Step). Plays known t (front ++ take i all) first now) (sym told) inv.played in
    record {
      keeps = bench_on g.D.Disk old mid new inv.keeps e.keeps;
      of = of_kept g.D.Disk mid new e.keeps t inv.of;
      connected = connected_kept g.D.Disk mid new e.keeps t inv.connected;
      met = e.keeps.met inv.met;
      pumps = e.pumps;
      played = subst (λ (all : List Step). Plays known t (front ++ take (i + 1) all) first next) told
          (subst (λ (some : List Step). Plays known t some first next) (sym (steps_more front steps i _ c.loop-step-test.true))
          (plays_more known t (front ++ take i steps) _ first now next played
          (takes_told (λ j. IsToldAt g.D.Disk j mid) known t _ now next (λ j told. told_kept g.D.Disk old mid inv.keeps j told) c.in_ok-take_step.ensures.took)));
    }

pub returns-clause-arms : goal.returns-clause-arms
returns-clause-arms g c =
    let t = c.args.scenario.now in
    let i = c.loop-step.step-index in
    let front = map (λ (arm : Arm). step.Arm arm) t.arms in
    let now = scene_of g.D.Disk c.loop-step.bench.cells c.loop-step.pumps in
    some_armed (λ j. IsToldAt g.D.Disk j c.args.bench.now) t (front ++ take i t.steps) _ (scene_of g.D.Disk c.args.bench.now.cells c.args.pumps.now)
    now now.moment (steps_split front t.steps i) c.loop-step.invariant.played (λ j. refl)
