use Rattle.std.proofs.Common.{rules, ◌≡◌, ◌<◌, set, get_or, length, refl, ap, subst, arith, true, None}
use Rattle.std.proofs.lemmas.Result.{on_ok_weaker}
use Rattle.walter_base.specs.declared.catalog.Catalog.{Catalog}
use Rattle.walter_cell.specs.Nodes.{is_told}
use Rattle.walter_cluster.proofs.Changes.{there_is}
use Rattle.walter_cluster.proofs.Keeping.{bench_self}
use Rattle.walter_cluster.proofs.Pumps.{pump_at, pump_there, pumps_after, pumps_kept}
use Rattle.walter_cluster.specs.Benches.{IsToldAt}
use Rattle.walter_cluster.specs.Moments.{moment_of}
use Rattle.walter_cluster.specs.Pumps.{PumpsAt}
use Rattle.walter_play.specs.Scripts.{site_pumped}
use Rattle.walter_play.proofs.Steps.{disk_calls_of, drops_of, pumps_told, takes_plain}
use Rattle.walter_play.proofs.playing.take_step.Goals as goal

pub pump-requires-clause-pump : goal.pump-requires-clause-pump
pump-requires-clause-pump g c =
    let below : c.in-Pump.site.0 < c.args.scenario.now.catalog.sites = rw c.in-Pump.is at c.requires.there in
    let sites = c.requires.of.sites in
    pump_at g.D.Disk c.args.bench.now c.args.bench.now (bench_self g.D.Disk c.args.bench.now) c.args.pumps.now c.requires.pumps c.in-Pump.site
    (omega (arith, below, sites)) c.from.result c.from.ensures c.index-pumps-from.result

pub returns-in_err-pump-in-Pump-clause-pumps : goal.returns-in_err-pump-in-Pump-clause-pumps
returns-in_err-pump-in-Pump-clause-pumps g c =
    let below : c.in-Pump.site.0 < c.args.scenario.now.catalog.sites = rw c.in-Pump.is at c.requires.there in
    let sites = c.requires.of.sites in
    pumps_after g.D.Disk c.args.bench.now c.pump.new.self c.pump.ensures.keeps c.args.pumps.now c.requires.pumps c.in-Pump.site
    (omega (arith, below, sites)) c.from.result c.from.ensures c.pump.new.pump c.pump.ensures.pump

pub returns-in_ok-pump-in-Pump-clause-pumps : goal.returns-in_ok-pump-in-Pump-clause-pumps
returns-in_ok-pump-in-Pump-clause-pumps g c =
    let below : c.in-Pump.site.0 < c.args.scenario.now.catalog.sites = rw c.in-Pump.is at c.requires.there in
    let sites = c.requires.of.sites in
    pumps_after g.D.Disk c.args.bench.now c.pump.new.self c.pump.ensures.keeps c.args.pumps.now c.requires.pumps c.in-Pump.site
    (omega (arith, below, sites)) c.from.result c.from.ensures c.pump.new.pump c.pump.ensures.pump

pub returns-in_ok-pump-in-Pump-clause-took : goal.returns-in_ok-pump-in-Pump-clause-took
returns-in_ok-pump-in-Pump-clause-took g c =
    let t = c.args.scenario.now in
    let old = c.args.bench.now in
    let new = c.pump.new.self in
    let site = c.in-Pump.site in
    let below : site.0 < t.catalog.sites = rw c.in-Pump.is at c.requires.there in
    let sites = c.requires.of.sites in
    let within : site.0 < length old.cells = omega (arith, below, sites) in
    let before = get_or c.args.pumps.now c.from.result c.index-pumps-from.result in
    let after = c.pump.new.pump in
    let cell = there_is old.cells site.0 within in
    rw c.in-Pump.is (record {
      before = before;
      after = after;
      was = pump_there g.D.Disk old new c.pump.ensures.keeps c.args.pumps.now c.requires.pumps site within c.from.result c.from.ensures c.index-pumps-from.result;
      now = ap (λ n. set c.args.pumps.now n after) c.from.ensures;
      answer = c.in_ok-pump-in-Pump.field-0;
      pumps = pumps_told (is_told g.D.Disk cell.0.node.disk ≡ true) (IsToldAt g.D.Disk site.0 old) t.catalog site (moment_of g.D.Disk old.cells)
          (moment_of g.D.Disk new.cells) before after c.in_ok-pump-in-Pump.field-0 (λ told. told cell.0 cell.1)
          (subst (λ (k : Catalog). PumpsAt (is_told g.D.Disk cell.0.node.disk ≡ true) k site (moment_of g.D.Disk old.cells) (moment_of g.D.Disk new.cells)
          before after c.in_ok-pump-in-Pump.field-0) (c.requires.of.catalogs site.0 cell.0 cell.1) (c.in_ok-pump-in-Pump.ensures.pumps cell.0 cell.1));
      calls = disk_calls_of g.D.Disk t old new site c.requires.of below c.pump.ensures.calls;
      drops = drops_of g.D.Disk t old new site c.requires.of c.requires.met below c.pump.ensures.drops;
    })

pub returns-in_default : goal.returns-in_default
returns-in_default g c =
    let plain : site_pumped c.args.step ≡ None = search rules in record {
      keeps = c.take_plain.ensures.keeps;
      pumps = pumps_kept g.D.Disk c.args.bench.now c.take_plain.new.bench c.take_plain.ensures.keeps c.args.pumps.now c.requires.pumps;
      took = on_ok_weaker c.take_plain.result (λ takes. takes_plain _ c.args.scenario.now c.args.step _ _ plain takes refl) c.take_plain.ensures.took;
      arms = c.take_plain.ensures.arms;
    }
