use Rattle.std.proofs.Common.{refl}
use Rattle.walter_tables.specs.Sites.{values_of, site_of, catalog_of}
use Rattle.walter_tables.proofs.StandKept.{stand_changed}
use Rattle.walter_tables.proofs.tables.Tables.keep_format.Goals as goal

pub returns-clause-stands : goal.returns-clause-stands
unfolding values_of site_of catalog_of
returns-clause-stands c = λ K S f sizes.
    let old = c.args.self.now in
    stand_changed (values_of old) K S old.here f _ refl
