use Rattle.walter_tables.specs.Sites.{values_of, site_of, catalog_of}
use Rattle.walter_tables.proofs.MarksTold.{durable_told}
use Rattle.walter_tables.proofs.tables.Tables.durable_mark.Goals as goal

pub returns-clause-mark : goal.returns-clause-mark
unfolding values_of site_of catalog_of
returns-clause-mark c = λ K S.
    let now = c.args.self.now in
    durable_told now.catalog now.site now.durable.holdings K S.durable S.sound.counted now.durable_site
    now.durable_sites now.tolerated c.durable_mark.result c.durable_mark.ensures.mark
