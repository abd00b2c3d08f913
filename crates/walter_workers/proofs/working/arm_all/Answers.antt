use Rattle.std.proofs.Common.{◌≡◌, ◌+◌, List, take, drop, subst, sym, ap, ◌∙◌, refl}
use Rattle.std.proofs.lemmas.List.{take_all, take_more, take-append-drop}
use Rattle.walter_cluster.proofs.Keeping.{bench_self, bench_on}
use Rattle.walter_cluster.specs.Moments.{Moment, moment_of}
use Rattle.walter_scenario.specs.declared.scenario.Arm.{Arm}
use Rattle.walter_play.specs.Scripts.{AreArmedFirst}
use Rattle.walter_play.proofs.Arming.{armed_so, first_more, first_none}
use Rattle.walter_workers.proofs.working.arm_all.Goals as goal

pub loop-arm-init : goal.loop-arm-init
loop-arm-init g c = record {
  keeps = bench_self g.D.Disk c.args.bench.now;
  trails = refl;
  calls = λ i. refl;
  armed = first_none (moment_of g.D.Disk c.args.bench.now.cells);
}

pub loop-arm-preserved : goal.loop-arm-preserved
loop-arm-preserved g c =
    let e = c.in_ok-arm.ensures in
    let i = c.loop-arm.arm-index in
    let inv = c.loop-arm.invariant in
    let old = c.args.bench.now in
    let mid = c.loop-arm.bench in
    let new = c.arm.new.self in
    let arms = c.as_slice-arm-items.result.now in
    let told = c.as_slice-arm-items.ensures in
    let first : Moment = moment_of g.D.Disk old.cells in
    let now : Moment = moment_of g.D.Disk mid.cells in
    let next : Moment = moment_of g.D.Disk new.cells in
    let before = subst (λ (all : List Arm). AreArmedFirst first now (take i all)) (sym told) inv.armed in
    record {
      keeps = bench_on g.D.Disk old mid new inv.keeps e.keeps;
      trails = e.arms.trails ∙ inv.trails;
      calls = λ j. e.arms.calls j ∙ inv.calls j;
      armed = subst (λ (all : List Arm). AreArmedFirst first next (take (i + 1) all)) told
          (subst (λ (some : List Arm). AreArmedFirst first next some) (sym (take_more arms i _ c.loop-arm-test.true))
          (first_more first now next _ inv.calls e.arms (take i arms) before));
    }

pub returns-in_err-arm-clause-keeps : goal.returns-in_err-arm-clause-keeps
returns-in_err-arm-clause-keeps g c =
    bench_on g.D.Disk c.args.bench.now c.loop-arm.bench c.arm.new.self c.loop-arm.invariant.keeps c.arm.ensures.keeps

pub returns-in_err-arm-clause-trails : goal.returns-in_err-arm-clause-trails
returns-in_err-arm-clause-trails g c =
    ap (λ (m : Moment). m.trails) c.in_err-arm.ensures.kept ∙ c.loop-arm.invariant.trails

pub returns-in_err-arm-clause-arms : goal.returns-in_err-arm-clause-arms
returns-in_err-arm-clause-arms g c =
    let i = c.loop-arm.arm-index in
    let first : Moment = moment_of g.D.Disk c.args.bench.now.cells in
    let now : Moment = moment_of g.D.Disk c.loop-arm.bench.cells in
    let arms = c.args.scenario.now.arms in (
      take i arms,
      drop i arms,
      sym (take-append-drop i arms),
      λ k.
          let armed = armed_so first now (take i arms) c.loop-arm.invariant.armed k in
          (armed.0, armed.1, ap (λ (m : Moment). m.arms k) c.in_err-arm.ensures.kept ∙ armed.2),
    )

pub returns-clause-armed : goal.returns-clause-armed
returns-clause-armed g c =
    let i = c.loop-arm.arm-index in
    let told = c.as_slice-arm-items.ensures in
    let arms = c.as_slice-arm-items.result.now in
    let all : take i c.args.scenario.now.arms ≡ c.args.scenario.now.arms =
    ap (λ (xs : List Arm). take i xs) (sym told) ∙ (take_all i arms c.loop-arm-test.false ∙ told) in
    subst (λ (some : List Arm). AreArmedFirst (moment_of g.D.Disk c.args.bench.now.cells) (moment_of g.D.Disk c.loop-arm.bench.cells) some) all
    c.loop-arm.invariant.armed

pub returns-clause-arms : goal.returns-clause-arms
returns-clause-arms g c =
    let i = c.loop-arm.arm-index in
    let arms = c.args.scenario.now.arms in (
      take i arms,
      drop i arms,
      sym (take-append-drop i arms),
      armed_so (moment_of g.D.Disk c.args.bench.now.cells) (moment_of g.D.Disk c.loop-arm.bench.cells) (take i arms) c.loop-arm.invariant.armed,
    )
