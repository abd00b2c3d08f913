use Rattle.std.proofs.Common.{ap, ◌∙◌}
use Rattle.std.proofs.Common.{nat_eq, Some, None, [], if◌then◌else◌}
use Rattle.walter_locks.specs.Parts.{part_of, owner_of}
use Rattle.walter_rules.specs.Slow.{Locked, is_slow, has_object}
use Rattle.walter_slow.specs.Tables.{commit_of}
use Rattle.walter_tables.specs.Sites.{values_of, site_of, catalog_of}
use Rattle.walter_tables.proofs.StandKept.{stand_begun}
use Rattle.walter_tables.proofs.tables.Tables.keep_begun.Goals as goal

pub returns-clause-stands : goal.returns-clause-stands
unfolding values_of site_of catalog_of
returns-clause-stands c = λ K S f sizes.
    let old = c.args.self.now in
    let made = c.requires.made in
    stand_begun (values_of old) K S old.here c.args.slow c.args.tx f sizes c.lock.new.self c.begin.new.self
    (λ k n. c.lock.ensures.parts k n ∙ ap (λ os. if is_slow old.site c.args.slow k n then Locked c.args.tx.tid os else part_of old.locks k n) made.objects)
    (λ oid. c.lock.ensures.owners oid ∙ ap (λ os. if has_object oid os then Some c.args.tx.tid else owner_of old.locks oid) made.objects)
    c.begin.ensures.last
    (λ n. c.begin.ensures.commits n ∙ ap (λ ks. if nat_eq c.args.slow n then Some (record { tx = Some c.args.tx; asked = ks; heard = []; no = None }) else commit_of old.slow n) made.asked)
