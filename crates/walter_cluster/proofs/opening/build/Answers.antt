use Rattle.std.proofs.Common.{◌∙◌}
use Rattle.std.proofs.lemmas.Result.{IfOk-weaker}
use Rattle.walter_cluster.specs.Benches.{BenchValue, IsOf, IsToldAt, AreRoomy, AreAllConnected, AreAllAnswered, AreMet, calls_at}
use Rattle.walter_cluster.specs.Builds.{HadNoRecords, AreCallsOnceBegun, AreLaid}
use Rattle.walter_cluster.specs.Lanes.{rows_in, columns_in}
use Rattle.walter_cluster.specs.Moments.{IsFirst, moment_of}
use Rattle.walter_cluster.specs.Openings.{IsBegunBench}
use Rattle.walter_cluster.specs.Seats.{lists_in}
use Rattle.walter_cluster.proofs.Built.{of_built, told_built, roomy_built, connected_built, answered_built, met_built, first_built, calls_built, none_had_built, laid_built}
use Rattle.walter_cluster.proofs.opening.build.Goals as goal

pub returns-clause-of : goal.returns-clause-of
returns-clause-of g c =
    let t = c.args.scenario.now in
    let parts = c.in-Ok.parts in
    let disks = c.args.disks.items in
    let rows = rows_in parts.rows.items in
    let columns = columns_in parts.columns.items in
    let lists = lists_in parts.lists.items in
    let ready = c.in-Ok.ensures in
    IfOk-weaker c.begin_all.result (IsBegunBench g.D.Disk t disks rows columns lists parts.homes.items) (λ (bench : BenchValue g.row.D.Denot). IsOf t bench)
    (λ (bench : BenchValue g.row.D.Denot) begun. of_built g.D.Disk t disks rows columns lists bench.cells begun.begun c.requires.disks bench.homes (begun.homes_are ∙ ready.homes))
    c.begin_all.ensures.begun

pub returns-clause-roomy : goal.returns-clause-roomy
returns-clause-roomy g c =
    let t = c.args.scenario.now in
    let parts = c.in-Ok.parts in
    let disks = c.args.disks.items in
    let rows = rows_in parts.rows.items in
    let columns = columns_in parts.columns.items in
    let lists = lists_in parts.lists.items in
    IfOk-weaker c.begin_all.result (IsBegunBench g.D.Disk t disks rows columns lists parts.homes.items) (λ (bench : BenchValue g.row.D.Denot). AreRoomy t bench)
    (λ (bench : BenchValue g.row.D.Denot) begun. roomy_built g.D.Disk t disks rows columns lists bench.cells begun.begun c.requires.disks bench.homes)
    c.begin_all.ensures.begun

pub returns-clause-told : goal.returns-clause-told
returns-clause-told g c i disk at told =
    let t = c.args.scenario.now in
    let parts = c.in-Ok.parts in
    let disks = c.args.disks.items in
    let rows = rows_in parts.rows.items in
    let columns = columns_in parts.columns.items in
    let lists = lists_in parts.lists.items in
    let ready = c.in-Ok.ensures in
    IfOk-weaker c.begin_all.result (IsBegunBench g.D.Disk t disks rows columns lists parts.homes.items) (λ (bench : BenchValue g.row.D.Denot). IsToldAt g.D.Disk i bench)
    (λ (bench : BenchValue g.row.D.Denot) begun. told_built g.D.Disk t disks rows columns lists bench.cells begun.begun c.requires.disks bench.homes i disk at told)
    c.begin_all.ensures.begun

pub returns-clause-connected : goal.returns-clause-connected
returns-clause-connected g c unread =
    let t = c.args.scenario.now in
    let parts = c.in-Ok.parts in
    let disks = c.args.disks.items in
    let rows = rows_in parts.rows.items in
    let columns = columns_in parts.columns.items in
    let lists = lists_in parts.lists.items in
    let ready = c.in-Ok.ensures in
    IfOk-weaker c.begin_all.result (IsBegunBench g.D.Disk t disks rows columns lists parts.homes.items) (λ (bench : BenchValue g.row.D.Denot). AreAllConnected t bench)
    (λ (bench : BenchValue g.row.D.Denot) begun. connected_built g.D.Disk t disks rows columns lists bench.cells begun.begun c.requires.disks c.args.conns.items c.requires.conns ready.seated bench.homes unread)
    c.begin_all.ensures.begun

pub returns-clause-answered : goal.returns-clause-answered
returns-clause-answered g c before unwritten =
    let t = c.args.scenario.now in
    let parts = c.in-Ok.parts in
    let disks = c.args.disks.items in
    let rows = rows_in parts.rows.items in
    let columns = columns_in parts.columns.items in
    let lists = lists_in parts.lists.items in
    let ready = c.in-Ok.ensures in
    IfOk-weaker c.begin_all.result (IsBegunBench g.D.Disk t disks rows columns lists parts.homes.items) (λ (bench : BenchValue g.row.D.Denot). AreAllAnswered t before bench)
    (λ (bench : BenchValue g.row.D.Denot) begun. answered_built g.D.Disk t disks rows columns lists bench.cells begun.begun c.requires.disks c.args.conns.items c.requires.conns ready.seated bench.homes before unwritten)
    c.begin_all.ensures.begun

pub returns-clause-met : goal.returns-clause-met
returns-clause-met g c =
    let t = c.args.scenario.now in
    let parts = c.in-Ok.parts in
    let disks = c.args.disks.items in
    let rows = rows_in parts.rows.items in
    let columns = columns_in parts.columns.items in
    let lists = lists_in parts.lists.items in
    let ready = c.in-Ok.ensures in
    IfOk-weaker c.begin_all.result (IsBegunBench g.D.Disk t disks rows columns lists parts.homes.items) (λ (bench : BenchValue g.row.D.Denot). AreMet bench)
    (λ (bench : BenchValue g.row.D.Denot) begun. met_built g.D.Disk t disks rows columns lists bench.cells begun.begun c.requires.disks ready.joined bench.homes)
    c.begin_all.ensures.begun

pub returns-clause-first : goal.returns-clause-first
returns-clause-first g c unarmed =
    let t = c.args.scenario.now in
    let parts = c.in-Ok.parts in
    let disks = c.args.disks.items in
    let rows = rows_in parts.rows.items in
    let columns = columns_in parts.columns.items in
    let lists = lists_in parts.lists.items in
    let ready = c.in-Ok.ensures in
    IfOk-weaker c.begin_all.result (IsBegunBench g.D.Disk t disks rows columns lists parts.homes.items) (λ (bench : BenchValue g.row.D.Denot). IsFirst t.catalog.sites (moment_of g.D.Disk bench.cells))
    (λ (bench : BenchValue g.row.D.Denot) begun. first_built g.D.Disk t disks rows columns lists bench.cells begun.begun c.requires.disks ready.joined unarmed)
    c.begin_all.ensures.begun

pub returns-clause-calls : goal.returns-clause-calls
returns-clause-calls g c =
    let t = c.args.scenario.now in
    let parts = c.in-Ok.parts in
    let disks = c.args.disks.items in
    let rows = rows_in parts.rows.items in
    let columns = columns_in parts.columns.items in
    let lists = lists_in parts.lists.items in
    IfOk-weaker c.begin_all.result (IsBegunBench g.D.Disk t disks rows columns lists parts.homes.items)
    (λ (bench : BenchValue g.row.D.Denot). AreCallsOnceBegun g.D.Disk t disks (calls_at g.D.Disk bench.cells))
    (λ (bench : BenchValue g.row.D.Denot) begun. calls_built g.D.Disk t disks rows columns lists bench.cells begun.begun c.requires.disks)
    c.begin_all.ensures.begun

pub returns-clause-had_none : goal.returns-clause-had_none
returns-clause-had_none g c =
    let t = c.args.scenario.now in
    let parts = c.in-Ok.parts in
    let disks = c.args.disks.items in
    let rows = rows_in parts.rows.items in
    let columns = columns_in parts.columns.items in
    let lists = lists_in parts.lists.items in
    let ready = c.in-Ok.ensures in
    IfOk-weaker c.begin_all.result (IsBegunBench g.D.Disk t disks rows columns lists parts.homes.items) (λ _. HadNoRecords g.D.Disk t disks)
    (λ (bench : BenchValue g.row.D.Denot) begun. none_had_built g.D.Disk t disks rows columns lists bench.cells begun.begun c.requires.disks)
    c.begin_all.ensures.begun

pub returns-clause-laid : goal.returns-clause-laid
returns-clause-laid g c =
    let t = c.args.scenario.now in
    let parts = c.in-Ok.parts in
    let disks = c.args.disks.items in
    let rows = rows_in parts.rows.items in
    let columns = columns_in parts.columns.items in
    let lists = lists_in parts.lists.items in
    IfOk-weaker c.begin_all.result (IsBegunBench g.D.Disk t disks rows columns lists parts.homes.items)
    (λ (bench : BenchValue g.row.D.Denot). AreLaid g.D.Disk t disks bench.cells)
    (λ (bench : BenchValue g.row.D.Denot) begun. laid_built g.D.Disk t disks rows columns lists bench.cells begun.begun c.requires.disks)
    c.begin_all.ensures.begun
