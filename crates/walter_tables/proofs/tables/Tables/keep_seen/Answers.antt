use Rattle.std.proofs.Common.{◌+◌, ◌<◌, ap, sym, ◌∙◌, subst, arith}
use Rattle.walter_base.specs.Vectors.{entry_at, Covers}
use Rattle.walter_locks.specs.Parts.{part_of, owner_of}
use Rattle.walter_rules.specs.Learning.{part_over}
use Rattle.walter_rules.proofs.RuleTests.{peer_true}
use Rattle.walter_tables.specs.Parts.{owner_over, is_free}
use Rattle.walter_spread.specs.Propagation.{Progress}
use Rattle.walter_tables.proofs.CoveredFloors.{cover_raised}
use Rattle.walter_tables.proofs.PartsKept.{free_over}
use Rattle.walter_tables.specs.Sites.{values_of, site_of, catalog_of}
use Rattle.walter_tables.proofs.StandKept.{stand_seen}
use Rattle.walter_tables.proofs.tables.Tables.keep_seen.Goals as goal

pub count_seen-requires : goal.count_seen-requires
count_seen-requires c = c.requires.room.0

pub release_over-requires : goal.release_over-requires
release_over-requires c = c.requires.room.1

pub commit-requires-clause-within : goal.commit-requires-clause-within
unfolding values_of site_of catalog_of
commit-requires-clause-within c =
    let old = c.args.self.now in
    subst (λ n. c.args.from.0 < n) (sym old.spread_committed) (peer_true old.catalog old.site c.args.from c.requires.on.2).0

pub invariant_of-self-clause-ahead : goal.invariant_of-self-clause-ahead
unfolding values_of site_of catalog_of
invariant_of-self-clause-ahead c = λ n above.
    let old = c.args.self.now in
    let apart = (peer_true old.catalog old.site c.args.from c.requires.on.2).1 in
    ap is_free (c.release_over.ensures.parts old.site n)
    ∙ free_over c.args.from old.site c.slow_number_at-slow.result n (part_of old.locks) apart (old.ahead n above)

pub invariant_of-self-clause-folded : goal.invariant_of-self-clause-folded
unfolding values_of site_of catalog_of
invariant_of-self-clause-folded c =
    let old = c.args.self.now in
    let committed = old.spread.committed in
    let from = c.args.from in
    let within = subst (λ n. from.0 < n) (sym old.spread_committed) (peer_true old.catalog old.site from c.requires.on.2).0 in
    subst (λ (S : Progress). Covers S.committed old.history.floor) (sym c.commit.ensures)
    (cover_raised old.history.floor committed from.0 (entry_at committed from + 1) within old.folded (omega arith))

pub returns-clause-stands : goal.returns-clause-stands
unfolding values_of site_of catalog_of
returns-clause-stands c = λ K S f sizes.
    let old = c.args.self.now in
    stand_seen (values_of old) K S old.here c.args.from c.args.seq f (subst (λ n. c.args.from.0 < n) (sym old.spread_committed) (peer_true old.catalog old.site c.args.from c.requires.on.2).0) c.count_seen.new.totals c.commit.new.self c.release_over.new.locks
    c.count_seen.ensures c.commit.ensures
    (λ k n. c.release_over.ensures.parts k n ∙ ap (λ m. part_over c.args.from m (part_of old.locks) k n) c.slow_number_at-slow.ensures)
    (λ oid. c.release_over.ensures.owners oid ∙ ap (λ m. owner_over c.args.from m (part_of old.locks) (owner_of old.locks) oid) c.slow_number_at-slow.ensures)
