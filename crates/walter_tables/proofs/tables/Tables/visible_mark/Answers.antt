use Rattle.walter_tables.specs.Sites.{values_of, site_of, catalog_of}
use Rattle.walter_tables.proofs.MarksTold.{seen_told}
use Rattle.walter_tables.proofs.tables.Tables.visible_mark.Goals as goal

pub returns-clause-mark : goal.returns-clause-mark
unfolding values_of site_of catalog_of
returns-clause-mark c = λ K S.
    let now = c.args.self.now in
    seen_told now.catalog now.site now.durable.holdings K S.durable S.sound.counted now.durable_site
    now.durable_sites now.tolerated c.visible_mark.result c.visible_mark.ensures.mark
