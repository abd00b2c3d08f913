use Rattle.walter_tables.specs.Sites.{values_of, site_of, catalog_of}
use Rattle.walter_tables.proofs.StandKept.{stand_booted}
use Rattle.walter_tables.proofs.tables.Tables.keep_boot.Goals as goal

pub returns-clause-stands : goal.returns-clause-stands
unfolding values_of site_of catalog_of
returns-clause-stands c = λ K S f sizes.
    let old = c.args.self.now in
    stand_booted (values_of old) K S old.here c.args.epoch f c.unlock_all.new.self c.boot.new.self c.unlock_all.ensures.parts
    c.unlock_all.ensures.freed c.unlock_all.ensures.others c.boot.ensures.last c.boot.ensures.commits
