use Rattle.std.proofs.Common.{ap, ◌∙◌}
use Rattle.walter_locks.specs.Parts.{part_of}
use Rattle.walter_rules.specs.Slow.{Locked}
use Rattle.walter_rules.proofs.RuleTests.{peer_true}
use Rattle.walter_tables.specs.Parts.{is_free}
use Rattle.walter_tables.proofs.PartsKept.{free_apart}
use Rattle.walter_tables.specs.Sites.{values_of, site_of, catalog_of}
use Rattle.walter_tables.proofs.StandKept.{stand_prepared}
use Rattle.walter_tables.proofs.tables.Tables.keep_prepared.Goals as goal

pub invariant_of-self-clause-ahead : goal.invariant_of-self-clause-ahead
unfolding values_of site_of catalog_of
invariant_of-self-clause-ahead c = λ n above.
    let old = c.args.self.now in
    let apart = (peer_true old.catalog old.site c.args.from c.requires.on.2).1 in
    ap is_free (c.lock.ensures.parts old.site n)
    ∙ free_apart c.args.from old.site c.args.slow n (Locked c.args.tid c.args.objects) (part_of old.locks old.site n) apart (old.ahead n above)

pub returns-clause-stands : goal.returns-clause-stands
unfolding values_of site_of catalog_of
returns-clause-stands c = λ K S f sizes.
    let old = c.args.self.now in
    stand_prepared (values_of old) K S old.here c.args.from c.args.slow c.args.tid c.args.objects f sizes c.lock.new.self
    c.lock.ensures.parts c.lock.ensures.owners
