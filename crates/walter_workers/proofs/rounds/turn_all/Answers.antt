use Rattle.std.proofs.Common.{◌≡◌, length, ap, ◌∙◌, refl, arith, Ok, false}
use Rattle.std.proofs.lemmas.List.{length-map}
use Rattle.walter_cell.specs.Lines.{CanFail}
use Rattle.walter_cluster.specs.Benches.{trails_of}
use Rattle.walter_cluster.proofs.Keeping.{bench_self, bench_on, connected_kept, of_kept}
use Rattle.walter_scenario.specs.declared.scenario.Client.{Client}
use Rattle.walter_workers.proofs.Driving.{called_more}
use Rattle.walter_workers.proofs.Rooms.{moves_self, moves_on}
use Rattle.walter_workers.proofs.rounds.turn_all.Goals as goal

pub loop-number-init : goal.loop-number-init
loop-number-init g c = record {
  keeps = bench_self g.D.Disk c.args.bench.now;
  arms = λ i. refl;
  of = c.requires.of;
  connected = c.requires.connected;
  works = λ pumps can. can;
  moves = moves_self (CanFail g.S.Source g.K.Sink) (trails_of c.args.bench.now.cells);
  called = λ is number client below at. absurd (omega (arith, below));
}

pub turn_one-requires : goal.turn_one-requires
turn_one-requires g c =
    let homes = ap length c.loop-number.invariant.of.homes ∙ length-map c.args.scenario.now.clients (λ (client : Client). client.site) in
    omega (arith, homes, c.loop-number-test.true, ap length c.as_slice.ensures)

pub returns-in_err-turn_one-clause-keeps : goal.returns-in_err-turn_one-clause-keeps
returns-in_err-turn_one-clause-keeps g c =
    bench_on g.D.Disk c.args.bench.now c.loop-number.bench c.turn_one.new.bench c.loop-number.invariant.keeps c.turn_one.ensures.keeps

pub returns-in_err-turn_one-clause-arms : goal.returns-in_err-turn_one-clause-arms
returns-in_err-turn_one-clause-arms g c = λ i. c.turn_one.ensures.arms i ∙ c.loop-number.invariant.arms i

pub returns-in_err-turn_one-clause-works : goal.returns-in_err-turn_one-clause-works
returns-in_err-turn_one-clause-works g c = λ pumps can.
    let inv = c.loop-number.invariant in
    (c.turn_one.ensures.turns c.args.scenario.now inv.of inv.connected).works pumps (inv.works pumps can)

pub loop-number-preserved : goal.loop-number-preserved
loop-number-preserved g c =
    let t = c.args.scenario.now in
    let fails : Type 0 = CanFail g.S.Source g.K.Sink in
    let old = c.args.bench.now in
    let mid = c.loop-number.bench in
    let new = c.turn_one.new.bench in
    let inv = c.loop-number.invariant in
    let keeps = c.turn_one.ensures.keeps in
    let one = c.in_ok-turn_one.ensures.turns t inv.of inv.connected in
    record {
      keeps = bench_on g.D.Disk old mid new inv.keeps keeps;
      arms = λ i. c.turn_one.ensures.arms i ∙ inv.arms i;
      of = of_kept g.D.Disk mid new keeps t inv.of;
      connected = connected_kept g.D.Disk mid new keeps t inv.connected;
      works = λ pumps can. one.works pumps (inv.works pumps can);
      moves = moves_on fails (trails_of old.cells) (trails_of mid.cells) (trails_of new.cells) c.loop-number.moved
          c.in_ok-turn_one.field-0 c.either-moved.result c.either-moved.ensures.neither c.either-moved.ensures.some inv.moves one.moves;
      called = λ is.
          let both = c.either-moved.ensures.neither is in
          let told : Ok c.in_ok-turn_one.field-0 ≡ Ok false = ap Ok both.1 in
          called_more fails t (trails_of mid.cells) (trails_of new.cells) c.loop-number.number (one.moves.same both.1)
          (inv.called both.0) (one.called told);
    }

pub returns-clause-called : goal.returns-clause-called
returns-clause-called g c = λ is.
    let still : c.loop-number.moved ≡ false = cc in
    λ number client below at. c.loop-number.invariant.called still number client
    (omega (arith, below, c.loop-number-test.false, ap length c.as_slice.ensures)) at
