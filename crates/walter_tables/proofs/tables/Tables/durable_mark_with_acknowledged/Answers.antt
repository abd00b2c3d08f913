use Rattle.std.proofs.Common.{arith}
use Rattle.walter_tables.specs.Sites.{values_of, site_of, catalog_of}
use Rattle.walter_durable.specs.Marks.{with_acknowledged}
use Rattle.walter_rules.specs.Learning.{risen}
use Rattle.walter_tables.proofs.MarksTold.{durable_told, acknowledged_then}
use Rattle.walter_tables.proofs.tables.Tables.durable_mark_with_acknowledged.Goals as goal

pub returns-clause-mark : goal.returns-clause-mark
unfolding values_of site_of catalog_of
returns-clause-mark c = λ K S news.
    let now = c.args.self.now in
    let H = now.durable.holdings in
    let possible = c.durable_mark_with_acknowledged.ensures.possible in
    let from = c.args.from in
    let got = c.args.got in
    durable_told now.catalog now.site (with_acknowledged from got H)
    (record K { acknowledged = risen from got K.acknowledged })
    (acknowledged_then now.catalog now.site H K S.durable from got
    (omega (arith, c.requires, possible.acknowledged, now.durable_sites)) news)
    S.sound.counted now.durable_site now.durable_sites now.tolerated c.durable_mark_with_acknowledged.result
    c.durable_mark_with_acknowledged.ensures.mark
