use Rattle.std.proofs.Common.{◌<◌, rules}
use Rattle.walter_tables.specs.Sites.{values_of, site_of, catalog_of}
use Rattle.walter_tables.proofs.FitsTold.{of_slow}
use Rattle.walter_tables.proofs.tables.Tables.is_of_slow.Goals as goal

pub returns-in-Some : goal.returns-in-Some
unfolding values_of site_of catalog_of
returns-in-Some c = λ K S sites.
    let old = c.args.self.now in
    let told = of_slow (values_of old) K S c.in-Some.begun.now c.args.tx.now c.in-Some.ensures sites in
    let some : 0 < c.args.tx.now.slow = search rules in (
      λ is. λ above. told.0 (c.is_same.ensures.0 is),
      λ is. c.is_same.ensures.1 (told.1 (is some)),
    )
