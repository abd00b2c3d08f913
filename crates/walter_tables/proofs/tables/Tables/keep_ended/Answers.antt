use Rattle.walter_tables.specs.Sites.{values_of, site_of, catalog_of}
use Rattle.walter_tables.proofs.StandKept.{stand_ended}
use Rattle.walter_tables.proofs.tables.Tables.keep_ended.Goals as goal

pub returns-clause-stands : goal.returns-clause-stands
unfolding values_of site_of catalog_of
returns-clause-stands c = λ K S f sizes.
    let old = c.args.self.now in
    stand_ended (values_of old) K S old.here c.args.slow f c.unlock.new.self c.end_undecided.new.slow c.unlock.ensures.parts
    c.unlock.ensures.owners c.end_undecided.ensures.last c.end_undecided.ensures.commits
