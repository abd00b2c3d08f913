use Rattle.std.proofs.Common.{◌≡◌, get_or, set, slice_get, ap, ◌∙◌, sym, subst, arith, true}
use Rattle.walter_base.specs.declared.catalog.Catalog.{Catalog}
use Rattle.walter_cell.specs.Nodes.{is_told}
use Rattle.walter_cluster.specs.Moments.{moment_of}
use Rattle.walter_cluster.specs.Pumps.{PumpsAt}
use Rattle.walter_cluster.proofs.Changes.{set_here, set_there, there_is}
use Rattle.walter_cluster.proofs.Keeping.{bench_self}
use Rattle.walter_cluster.proofs.Pumps.{pump_at, pump_there, pumps_after}
use Rattle.walter_workers.proofs.Pumping.{pumped_so}
use Rattle.walter_workers.proofs.rounds.pump_one.Goals as goal

pub pump-requires-clause-pump : goal.pump-requires-clause-pump
pump-requires-clause-pump g c =
    let old = c.args.bench.now in
    pump_at g.D.Disk old old (bench_self g.D.Disk old) c.args.pumps.now c.requires.pumps c.args.site c.requires.there
    c.from.result c.from.ensures c.index-pumps-from.result

pub returns-in_err-pump-clause-pumps : goal.returns-in_err-pump-clause-pumps
returns-in_err-pump-clause-pumps g c =
    pumps_after g.D.Disk c.args.bench.now c.pump.new.self c.pump.ensures.keeps c.args.pumps.now c.requires.pumps c.args.site
    c.requires.there c.from.result c.from.ensures c.pump.new.pump c.pump.ensures.pump

pub returns-clause-pumps : goal.returns-clause-pumps
returns-clause-pumps g c =
    pumps_after g.D.Disk c.args.bench.now c.pump.new.self c.pump.ensures.keeps c.args.pumps.now c.requires.pumps c.args.site
    c.requires.there c.from.result c.from.ensures c.pump.new.pump c.pump.ensures.pump

pub returns-clause-works : goal.returns-clause-works
returns-clause-works g c = λ t can.
    let old = c.args.bench.now in
    let new = c.pump.new.self in
    let site = c.args.site in
    let pumps = c.args.pumps.now in
    let k = c.from.result in
    let before = get_or pumps k c.index-pumps-from.result in
    let after = c.pump.new.pump in
    let keeps = c.pump.ensures.keeps in
    let cell = there_is old.cells site.0 c.requires.there in
    let long = c.requires.pumps.long in
    let there = c.requires.there in
    let here = c.from.ensures in
    rw c.did.ensures (pumped_so g.D.Disk t old new keeps pumps (set pumps k after) can
    (pumps_after g.D.Disk old new keeps pumps c.requires.pumps site there k here after c.pump.ensures.pump) site before after
    (pump_there g.D.Disk old new keeps pumps c.requires.pumps site there k here c.index-pumps-from.result)
    (ap (slice_get (set pumps k after)) (sym here) ∙ set_here pumps k after (omega (arith, there, long, here)))
    (λ n apart. set_there pumps k n after (λ e. apart (e ∙ here))) cell.0 cell.1 c.in_ok-pump.field-0
    (subst (λ (x : Catalog). PumpsAt (is_told g.D.Disk cell.0.node.disk ≡ true) x site (moment_of g.D.Disk old.cells) (moment_of g.D.Disk new.cells)
    before after c.in_ok-pump.field-0) (can.of.catalogs site.0 cell.0 cell.1) (c.in_ok-pump.ensures.pumps cell.0 cell.1)))
