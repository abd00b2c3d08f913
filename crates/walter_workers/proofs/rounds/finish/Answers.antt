use Rattle.std.proofs.Common.{refl, ◌∙◌}
use Rattle.walter_cluster.proofs.Keeping.{bench_self, bench_on, connected_kept}
use Rattle.walter_workers.proofs.rounds.finish.Goals as goal

pub loop-init : goal.loop-init
loop-init g c = record {
  keeps = bench_self g.D.Disk c.args.bench.now;
  arms = λ i. refl;
  works = c.requires.works;
  connected = c.requires.connected;
}

pub returns-in_err-round-clause-keeps : goal.returns-in_err-round-clause-keeps
returns-in_err-round-clause-keeps g c =
    bench_on g.D.Disk c.args.bench.now c.loop.bench c.round.new.bench c.loop.invariant.keeps c.round.ensures.keeps

pub returns-in_err-round-clause-arms : goal.returns-in_err-round-clause-arms
returns-in_err-round-clause-arms g c = λ i. c.round.ensures.arms i ∙ c.loop.invariant.arms i

pub returns-then-not-branch-clause-keeps : goal.returns-then-not-branch-clause-keeps
returns-then-not-branch-clause-keeps g c =
    bench_on g.D.Disk c.args.bench.now c.loop.bench c.round.new.bench c.loop.invariant.keeps c.round.ensures.keeps

pub returns-then-not-branch-clause-arms : goal.returns-then-not-branch-clause-arms
returns-then-not-branch-clause-arms g c = λ i. c.round.ensures.arms i ∙ c.loop.invariant.arms i

pub loop-preserved : goal.loop-preserved
loop-preserved g c = record {
  keeps = bench_on g.D.Disk c.args.bench.now c.loop.bench c.round.new.bench c.loop.invariant.keeps c.round.ensures.keeps;
  arms = λ i. c.round.ensures.arms i ∙ c.loop.invariant.arms i;
  works = c.in_ok-round.ensures.works;
  connected = connected_kept g.D.Disk c.loop.bench c.round.new.bench c.round.ensures.keeps c.args.scenario.now c.loop.invariant.connected;
}
