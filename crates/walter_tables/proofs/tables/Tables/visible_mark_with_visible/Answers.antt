use Rattle.std.proofs.Common.{arith}
use Rattle.walter_tables.specs.Sites.{values_of, site_of, catalog_of}
use Rattle.walter_durable.specs.Marks.{with_visible}
use Rattle.walter_rules.specs.Learning.{risen}
use Rattle.walter_tables.proofs.MarksTold.{seen_told, visible_then}
use Rattle.walter_tables.proofs.tables.Tables.visible_mark_with_visible.Goals as goal

pub returns-clause-mark : goal.returns-clause-mark
unfolding values_of site_of catalog_of
returns-clause-mark c = λ K S news.
    let now = c.args.self.now in
    let H = now.durable.holdings in
    let possible = c.visible_mark_with_visible.ensures.possible in
    let from = c.args.from in
    let committed = c.args.committed in
    seen_told now.catalog now.site (with_visible from committed H)
    (record K { visible = risen from committed K.visible })
    (visible_then now.catalog now.site H K S.durable from committed
    (omega (arith, c.requires, possible.visible, now.durable_sites)) news)
    S.sound.counted now.durable_site now.durable_sites now.tolerated c.visible_mark_with_visible.result
    c.visible_mark_with_visible.ensures.mark
