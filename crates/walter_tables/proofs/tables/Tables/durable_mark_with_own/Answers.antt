use Rattle.std.proofs.Common.{subst}
use Rattle.walter_tables.specs.Sites.{values_of, site_of, catalog_of}
use Rattle.std.proofs.Common.{Some}
use Rattle.walter_base.specs.declared.message.Record.TheVariants.{Own}
use Rattle.walter_base.specs.declared.names.SiteId.{SiteId}
use Rattle.std.specs.Prelude.{List}
use Rattle.walter_durable.specs.Marks.{IsDurableMark, with_own}
use Rattle.walter_objects.specs.Preferred.{homes_of}
use Rattle.walter_rules.specs.Learning.{recorded}
use Rattle.walter_tables.proofs.MarksTold.{durable_told, own_then, counted_then}
use Rattle.walter_tables.proofs.tables.Tables.durable_mark_with_own.Goals as goal

pub returns-clause-mark : goal.returns-clause-mark
unfolding values_of site_of catalog_of
returns-clause-mark c = λ K seq tx homes S follows.
    let now = c.args.self.now in
    let H = now.durable.holdings in
    let mark = c.durable_mark_with_own.result in
    durable_told now.catalog now.site (with_own (homes_of now.catalog tx.updates) H)
    (recorded now.catalog now.site (Some (Own seq tx)) K)
    (own_then now.catalog now.site H K S.durable S.sound.counted seq tx follows.here)
    (counted_then now.site K S.sound.counted seq tx follows.here now.catalog) now.durable_site now.durable_sites
    now.tolerated mark
    (subst (λ (ks : List SiteId). IsDurableMark (with_own ks H) mark) homes c.durable_mark_with_own.ensures.mark)
