use Rattle.std.proofs.Common.{◌<◌, length, ap, arith, inl, inr}
use Rattle.std.proofs.lemmas.List.{length-map}
use Rattle.std.proofs.lemmas.List.Elements.{All-contains}
use Rattle.walter_cluster.specs.Moments.{Moment}
use Rattle.walter_cluster.proofs.Benches.{on_err_so}
use Rattle.walter_cluster.proofs.Changes.{there_is}
use Rattle.walter_psi.proofs.Lists.{contains_at}
use Rattle.walter_scenario.specs.declared.scenario.Client.{Client}
use Rattle.walter_play.proofs.Steps.{turn_of, disk_calls_of, drops_of, turn_is}
use Rattle.walter_play.proofs.playing.take_plain.Goals as goal

pub turn-requires : goal.turn-requires
turn-requires g c =
    let t = c.args.scenario.now in
    let long = c.requires.of.sites in
    let within : c.in-Call.client < length t.clients = rw c.in-Call.is at c.requires.there in
    let homes = ap length c.requires.of.homes in
    let clients = length-map t.clients (λ (client : Client). client.site) in
    omega (arith, within, homes, clients)

pub returns-in_err-arm-in-Arm-clause-arms : goal.returns-in_err-arm-in-Arm-clause-arms
returns-in_err-arm-in-Arm-clause-arms g c =
    on_err_so c.from_residual-in_err-arm-in-Arm.result _ (λ i. ap (λ (m : Moment). m.arms i) c.in_err-arm-in-Arm.ensures.kept)

pub returns-in_ok-turn-in-Call-clause-took : goal.returns-in_ok-turn-in-Call-clause-took
returns-in_ok-turn-in-Call-clause-took g c =
    let t = c.args.scenario.now in
    let within : c.in-Call.client < length t.clients = rw c.in-Call.is at c.requires.there in
    let client = there_is t.clients c.in-Call.client within in
    let turn = turn_of t c.args.bench.now c.in-Call.client client.0 c.requires.of c.requires.connected c.requires.within client.1 in
    let site = All-contains (λ (client : Client). client.site.0 < t.catalog.sites) t.clients client.0 c.requires.within
    (contains_at t.clients client.0 c.in-Call.client client.1) in
    rw c.in-Call.is (record {
      client = client.0;
      there = client.1;
      answer = c.in_ok-turn-in-Call.field-0;
      turns = turn_is client.0.site c.in-Call.client client.0.bytes _ _ _ c.in_ok-turn-in-Call.field-0
          (λ failed. elim failed.1 [ inl rose ↦ (let r = rose.1 in omega (arith, r)) | inr rose ↦ (let r = rose.1 in omega (arith, r)) ])
          (c.in_ok-turn-in-Call.ensures.turns client.0.site client.0.bytes turn.0 turn.1);
      calls = disk_calls_of g.D.Disk t c.args.bench.now c.turn.new.self client.0.site c.requires.of site
          (c.turn.ensures.calls client.0.site turn.0);
      drops = drops_of g.D.Disk t c.args.bench.now c.turn.new.self client.0.site c.requires.of c.requires.met site
          (c.turn.ensures.drops client.0.site turn.0);
    })

pub returns-in_ok-deliver-in-Deliver-clause-took : goal.returns-in_ok-deliver-in-Deliver-clause-took
returns-in_ok-deliver-in-Deliver-clause-took g c =
    let t = c.args.scenario.now in
    let there = rw c.in-Deliver.is at c.requires.there in
    rw c.in-Deliver.is (record {
      answer = c.in_ok-deliver-in-Deliver.field-0;
      moves = c.in_ok-deliver-in-Deliver.ensures.moves;
      calls = disk_calls_of g.D.Disk t c.args.bench.now c.deliver.new.self c.in-Deliver.to c.requires.of there.0.there
          c.deliver.ensures.calls;
      drops = drops_of g.D.Disk t c.args.bench.now c.deliver.new.self c.in-Deliver.to c.requires.of c.requires.met there.0.there
          c.deliver.ensures.drops;
    })

pub returns-in_ok-advance-in-Advance-clause-took : goal.returns-in_ok-advance-in-Advance-clause-took
returns-in_ok-advance-in-Advance-clause-took g c =
    let t = c.args.scenario.now in
    let there = rw c.in-Advance.is at c.requires.there in
    rw c.in-Advance.is (record {
      answer = c.in_ok-advance-in-Advance.field-0;
      acts = c.in_ok-advance-in-Advance.ensures.acts;
      calls = disk_calls_of g.D.Disk t c.args.bench.now c.advance.new.self c.in-Advance.at c.requires.of there.there
          c.advance.ensures.calls;
      drops = drops_of g.D.Disk t c.args.bench.now c.advance.new.self c.in-Advance.at c.requires.of c.requires.met there.there
          c.advance.ensures.drops;
    })

pub returns-in_ok-tick-in-Tick-clause-took : goal.returns-in_ok-tick-in-Tick-clause-took
returns-in_ok-tick-in-Tick-clause-took g c =
    let t = c.args.scenario.now in
    let there = rw c.in-Tick.is at c.requires.there in
    rw c.in-Tick.is (record {
      answer = c.in_ok-tick-in-Tick.field-0;
      acts = c.in_ok-tick-in-Tick.ensures.acts;
      calls = disk_calls_of g.D.Disk t c.args.bench.now c.tick.new.self c.in-Tick.site c.requires.of there
          c.tick.ensures.calls;
      drops = drops_of g.D.Disk t c.args.bench.now c.tick.new.self c.in-Tick.site c.requires.of c.requires.met there
          c.tick.ensures.drops;
    })

pub returns-in_ok-upgrade-in-Upgrade-clause-took : goal.returns-in_ok-upgrade-in-Upgrade-clause-took
returns-in_ok-upgrade-in-Upgrade-clause-took g c =
    let t = c.args.scenario.now in
    let there = rw c.in-Upgrade.is at c.requires.there in
    rw c.in-Upgrade.is (record {
      answer = c.in_ok-upgrade-in-Upgrade.field-0;
      acts = c.in_ok-upgrade-in-Upgrade.ensures.acts;
      calls = disk_calls_of g.D.Disk t c.args.bench.now c.upgrade.new.self c.in-Upgrade.site c.requires.of there
          c.upgrade.ensures.calls;
      drops = drops_of g.D.Disk t c.args.bench.now c.upgrade.new.self c.in-Upgrade.site c.requires.of c.requires.met there
          c.upgrade.ensures.drops;
    })

pub returns-in_ok-stop-in-Stop-clause-took : goal.returns-in_ok-stop-in-Stop-clause-took
returns-in_ok-stop-in-Stop-clause-took g c =
    let t = c.args.scenario.now in
    let there = rw c.in-Stop.is at c.requires.there in
    rw c.in-Stop.is (record {
      answer = c.in_ok-stop-in-Stop.field-0;
      acts = c.in_ok-stop-in-Stop.ensures.acts;
      calls = disk_calls_of g.D.Disk t c.args.bench.now c.stop.new.self c.in-Stop.site c.requires.of there
          c.stop.ensures.calls;
      drops = drops_of g.D.Disk t c.args.bench.now c.stop.new.self c.in-Stop.site c.requires.of c.requires.met there
          c.stop.ensures.drops;
    })

pub returns-in_ok-restart-in-Restart-clause-took : goal.returns-in_ok-restart-in-Restart-clause-took
returns-in_ok-restart-in-Restart-clause-took g c =
    let t = c.args.scenario.now in
    let there = rw c.in-Restart.is at c.requires.there in
    rw c.in-Restart.is (record {
      answer = c.in_ok-restart-in-Restart.field-0;
      acts = c.in_ok-restart-in-Restart.ensures.acts;
      calls = disk_calls_of g.D.Disk t c.args.bench.now c.restart.new.self c.in-Restart.site c.requires.of there
          c.restart.ensures.calls;
      drops = drops_of g.D.Disk t c.args.bench.now c.restart.new.self c.in-Restart.site c.requires.of c.requires.met there
          c.restart.ensures.drops;
    })
