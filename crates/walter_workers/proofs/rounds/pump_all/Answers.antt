use Rattle.std.proofs.Common.{◌≡◌, ap, ◌∙◌, refl, arith, inl, inr, Ok, false}
use Rattle.walter_cluster.specs.Benches.{trails_of}
use Rattle.walter_cluster.proofs.Keeping.{bench_self, bench_on}
use Rattle.walter_workers.proofs.Driving.{done_more}
use Rattle.walter_workers.proofs.Rooms.{moves_self, moves_on}
use Rattle.walter_workers.proofs.rounds.pump_all.Goals as goal

pub loop-site-init : goal.loop-site-init
loop-site-init g c = record {
  keeps = bench_self g.D.Disk c.args.bench.now;
  arms = λ i. refl;
  works = c.requires;
  moves = moves_self ⊥ (trails_of c.args.bench.now.cells);
  done = λ is i below. absurd (omega (arith, below));
}

pub pump_one-requires-clause-there : goal.pump_one-requires-clause-there
pump_one-requires-clause-there g c =
    let sites = c.loop-site.invariant.works.of.sites in omega (arith, sites, c.loop-site-test.true)

pub pump_one-requires-clause-pumps : goal.pump_one-requires-clause-pumps
pump_one-requires-clause-pumps g c = c.loop-site.invariant.works.are

pub returns-in_err-pump_one-clause-keeps : goal.returns-in_err-pump_one-clause-keeps
returns-in_err-pump_one-clause-keeps g c =
    bench_on g.D.Disk c.args.bench.now c.loop-site.bench c.pump_one.new.bench c.loop-site.invariant.keeps c.pump_one.ensures.keeps

pub returns-in_err-pump_one-clause-arms : goal.returns-in_err-pump_one-clause-arms
returns-in_err-pump_one-clause-arms g c = λ i. c.pump_one.ensures.arms i ∙ c.loop-site.invariant.arms i

pub loop-site-preserved : goal.loop-site-preserved
loop-site-preserved g c =
    let t = c.args.scenario.now in
    let old = c.args.bench.now in
    let mid = c.loop-site.bench in
    let new = c.pump_one.new.bench in
    let inv = c.loop-site.invariant in
    let keeps = c.pump_one.ensures.keeps in
    let one = c.in_ok-pump_one.ensures.works t inv.works in
    record {
      keeps = bench_on g.D.Disk old mid new inv.keeps keeps;
      arms = λ i. c.pump_one.ensures.arms i ∙ inv.arms i;
      works = one.works;
      moves = moves_on ⊥ (trails_of old.cells) (trails_of mid.cells) (trails_of new.cells) c.loop-site.moved
          c.in_ok-pump_one.field-0 c.either-moved.result c.either-moved.ensures.neither c.either-moved.ensures.some inv.moves one.moves;
      done = λ is.
          let both = c.either-moved.ensures.neither is in
          let told : Ok c.in_ok-pump_one.field-0 ≡ Ok false = ap Ok both.1 in
          elim (one.moves.same both.1) [
            | inl never ↦ absurd never
            | inr same ↦ done_more g.D.Disk t mid new keeps c.loop-site.site same (inv.done both.0) c.loop-site.site refl (one.done told)
          ];
    }

pub returns-clause-done : goal.returns-clause-done
returns-clause-done g c = λ is.
    let still : c.loop-site.moved ≡ false = cc in
    λ i below. c.loop-site.invariant.done still i (omega (arith, below, c.loop-site-test.false))
