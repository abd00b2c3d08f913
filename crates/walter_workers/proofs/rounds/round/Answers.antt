use Rattle.std.proofs.Common.{◌≡◌, ap, Ok, false}
use Rattle.walter_cell.specs.Lines.{CanFail}
use Rattle.walter_cluster.proofs.Keeping.{bench_on}
use Rattle.walter_workers.proofs.Driving.{driven}
use Rattle.walter_workers.proofs.rounds.round.Goals as goal

pub returns-in_err-did-clause-keeps : goal.returns-in_err-did-clause-keeps
returns-in_err-did-clause-keeps g c =
    bench_on g.D.Disk c.args.bench.now c.turn_all.new.bench c.pump_all.new.bench c.turn_all.ensures.keeps c.pump_all.ensures.keeps

pub returns-clause-keeps : goal.returns-clause-keeps
returns-clause-keeps g c =
    bench_on g.D.Disk c.args.bench.now c.turn_all.new.bench c.pump_all.new.bench c.turn_all.ensures.keeps c.pump_all.ensures.keeps

pub returns-clause-driven : goal.returns-clause-driven
returns-clause-driven g c = λ is.
    let still : c.either.result ≡ false = cc in
    let both = c.either.ensures.neither still in
    driven g.D.Disk c.args.scenario.now (CanFail g.S.Source g.K.Sink) c.turn_all.new.bench c.pump_all.new.bench c.pump_all.new.pumps
    c.in_ok-did.ensures.works (c.in_ok-did.ensures.moves.same both.1) (c.in_ok-called.ensures.called (ap Ok both.0))
    (c.in_ok-did.ensures.done (ap Ok both.1))
