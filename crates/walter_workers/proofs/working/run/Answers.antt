use Rattle.std.proofs.Common.{List, sym, ◌∙◌, subst}
use Rattle.std.proofs.lemmas.Result.{on_ok_weaker}
use Rattle.walter_cell.specs.Lines.{CanFail}
use Rattle.walter_cluster.specs.Benches.{IsToldAt, trails_of}
use Rattle.walter_cluster.specs.Moments.{moment_of}
use Rattle.walter_cluster.specs.Shared.{CanWork}
use Rattle.walter_cluster.proofs.Keeping.{connected_each, connected_kept, each_on, of_kept, told_each}
use Rattle.walter_link.specs.Pumps.{PumpValue}
use Rattle.walter_play.proofs.Arming.{more_kept}
use Rattle.walter_work.proofs.Driven.{driven_fewer}
use Rattle.walter_workers.proofs.Beginning.{can_first}
use Rattle.walter_workers.proofs.working.run.Goals as goal

pub share_work-bench-requires-clause-works : goal.share_work-bench-requires-clause-works
share_work-bench-requires-clause-works g c κs within =
    let t = c.args.scenario.now in
    let armed = c.arm_all.new.bench in
    subst (λ (ps : List PumpValue). CanWork g.D.Disk t armed ps) (sym c.in-Ok.ensures)
    (can_first g.D.Disk t armed (of_kept g.D.Disk c.args.bench armed c.arm_all.ensures.keeps t c.requires.of)
    (c.arm_all.ensures.trails ∙ c.requires.first.openings))

pub finish-finished-requires-clause-connected : goal.finish-finished-requires-clause-connected
finish-finished-requires-clause-connected g c =
    let t = c.args.scenario.now in
    let armed = c.arm_all.new.bench in
    connected_each g.D.Disk armed c.share_work-bench.result.0 c.share_work-bench.ensures.cells t
    (connected_kept g.D.Disk c.args.bench armed c.arm_all.ensures.keeps t c.requires.connected)

pub returns-clause-cells : goal.returns-clause-cells
returns-clause-cells g c =
    let armed = c.arm_all.new.bench in
    let shared = c.share_work-bench.result.0 in
    let ended = c.finish-finished.new.bench in
    each_on g.D.Disk c.args.bench.cells shared.cells ended.cells
    (each_on g.D.Disk c.args.bench.cells armed.cells shared.cells c.arm_all.ensures.keeps.cells c.share_work-bench.ensures.cells)
    c.finish-finished.ensures.keeps.cells

pub returns-clause-driven : goal.returns-clause-driven
returns-clause-driven g c =
    let armed = c.arm_all.new.bench in
    let shared = c.share_work-bench.result.0 in
    let ended = c.finish-finished.new.bench in
    let all = each_on g.D.Disk c.args.bench.cells shared.cells ended.cells
    (each_on g.D.Disk c.args.bench.cells armed.cells shared.cells c.arm_all.ensures.keeps.cells c.share_work-bench.ensures.cells)
    c.finish-finished.ensures.keeps.cells in
    let fails : Type 0 = CanFail g.S.Source g.K.Sink in
    on_ok_weaker c.finish-finished.result
    (driven_fewer (λ i. IsToldAt g.D.Disk i ended) (λ i. IsToldAt g.D.Disk i c.args.bench) fails fails
    (λ i told. told_each g.D.Disk c.args.bench ended all i told) (λ failed. failed) c.args.scenario.now (trails_of ended.cells))
    c.finish-finished.ensures.driven

pub returns-clause-arms : goal.returns-clause-arms
returns-clause-arms g c =
    more_kept (moment_of g.D.Disk c.args.bench.cells) (moment_of g.D.Disk c.arm_all.new.bench.cells)
    (moment_of g.D.Disk c.finish-finished.new.bench.cells) c.args.scenario.now.arms c.arm_all.ensures.arms
    (λ i. c.finish-finished.ensures.arms i ∙ c.share_work-bench.ensures.arms i)
