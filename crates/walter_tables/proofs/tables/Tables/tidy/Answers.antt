use Rattle.walter_tables.specs.Sites.{values_of, site_of, catalog_of}
use Rattle.walter_tables.proofs.StandKept.{stand_folded}
use Rattle.walter_tables.proofs.tables.Tables.tidy.Goals as goal

pub returns-clause-stands : goal.returns-clause-stands
unfolding values_of site_of catalog_of
returns-clause-stands c = λ K S.
    let old = c.args.self.now in
    stand_folded (values_of old) K S old.here c.fold.new.history (c.fold.ensures.rows old.catalog K.log S.rows)
