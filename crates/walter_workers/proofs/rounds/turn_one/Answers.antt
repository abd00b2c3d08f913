use Rattle.std.proofs.Common.{◌<◌, length, ap, ◌∙◌, arith}
use Rattle.std.proofs.lemmas.List.{length-map}
use Rattle.std.proofs.lemmas.Option.{slice_get_within}
use Rattle.std.proofs.lemmas.Result.{err_from_is_err_and}
use Rattle.walter_cell.specs.Lines.{CanFail, HasFaultAt}
use Rattle.walter_cluster.specs.Benches.{lines_at}
use Rattle.walter_cluster.proofs.Changes.{there_is}
use Rattle.walter_play.proofs.Steps.{home_of, line_of}
use Rattle.walter_scenario.specs.declared.scenario.Client.{Client}
use Rattle.walter_workers.proofs.Turning.{turned, unturned}
use Rattle.walter_workers.proofs.rounds.turn_one.Goals as goal

pub returns-in_err-turn-clause-turns : goal.returns-in_err-turn-clause-turns
returns-in_err-turn-clause-turns g c = λ t of connected.
    let fault = err_from_is_err_and c.from_residual.result c.from_residual.ensures.1 in
    rw fault.1 (unturned g.D.Disk (CanFail g.S.Source g.K.Sink) t c.args.number c.args.bench.now c.turn.new.self
    c.turn.ensures.keeps fault.0 c.in_err-turn.ensures.kept)

pub returns-clause-turns : goal.returns-clause-turns
returns-clause-turns g c = λ t of connected.
    let old = c.args.bench.now in
    let new = c.turn.new.self in
    let below : c.args.number < length t.clients =
    let homes = ap length of.homes ∙ length-map t.clients (λ (client : Client). client.site) in
    omega (arith, c.requires, homes) in
    let client = there_is t.clients c.args.number below in
    let home = home_of t old c.args.number client.0 of client.1 in
    let serves = c.turn.ensures.serves client.0.site home in
    let line = line_of t old c.args.number client.0 serves.before connected client.1 serves.was in
    let turns = c.in_ok-turn.ensures.turns client.0.site client.0.bytes home line in
    rw c.was_served.ensures (turned g.D.Disk (CanFail g.S.Source g.K.Sink) t c.args.number old new c.turn.ensures.keeps
    (HasFaultAt (lines_at new.cells client.0.site.0) c.args.number × CanFail g.S.Source g.K.Sink) (λ failed. failed.1) client.0 client.1
    (slice_get_within old.cells client.0.site.0 serves.before serves.was) c.in_ok-turn.field-0 turns)
