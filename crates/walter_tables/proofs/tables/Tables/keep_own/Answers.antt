use Rattle.std.proofs.Common.{◌+◌, ◌<◌, ℕ, length, map, ap, sym, ◌∙◌, subst, arith}
use Rattle.walter_base.specs.declared.names.SiteId.{SiteId}
use Rattle.walter_base.specs.declared.update.Row.{Row}
use Rattle.walter_base.specs.Vectors.{Covers}
use Rattle.walter_cset.specs.Totals.{HavePlaces}
use Rattle.walter_durable.specs.Marks.{with_own}
use Rattle.walter_locks.specs.Parts.{part_of}
use Rattle.walter_rows.specs.Rows.{HaveRoom}
use Rattle.walter_rows.proofs.HeldRows.{updates_back}
use Rattle.walter_rules.specs.declared.held.Held.{Held}
use Rattle.walter_rules.specs.Log.{version_of}
use Rattle.walter_rules.specs.Slow.{is_slow}
use Rattle.walter_session.specs.Floors.{AllCover}
use Rattle.walter_session.specs.Sessions.{sessions_of}
use Rattle.walter_spread.specs.Propagation.{Progress, own}
use Rattle.walter_tables.specs.Parts.{is_free}
use Rattle.walter_tables.specs.Sites.{values_of, site_of, catalog_of}
use Rattle.walter_tables.proofs.CoveredFloors.{cover_raised}
use Rattle.walter_tables.proofs.PartsKept.{free_unlocked}
use Rattle.walter_tables.proofs.StandKept.{stand_own, CountsOwn}
use Rattle.walter_tables.proofs.tables.Tables.keep_own.Goals as goal

pub count_commit-requires : goal.count_commit-requires
count_commit-requires c = subst (HavePlaces c.args.self.now.totals) (sym c.as_slice.ensures) c.requires.room.2

pub append_all-requires : goal.append_all-requires
unfolding values_of site_of catalog_of
append_all-requires c =
    let tx = c.args.tx in
    let version = version_of (record { seq = c.args.seq; tx = tx }) in
    subst (HaveRoom c.args.self.now.history)
    (sym (ap (map (λ (r : Row). r.update)) c.requires.made.rows ∙ updates_back version tx.updates)) c.requires.room.1

pub invariant_of-self-clause-ahead : goal.invariant_of-self-clause-ahead
unfolding values_of site_of catalog_of
invariant_of-self-clause-ahead c = λ n above.
    let old = c.args.self.now in
    let was = old.ahead n (subst (λ (m : ℕ). m < n) c.commit_decided.ensures.last above) in
    ap is_free (c.unlock.ensures.parts old.site n)
    ∙ free_unlocked (is_slow old.site c.args.tx.slow old.site n) (part_of old.locks old.site n) was

pub invariant_of-self-clause-snapshots : goal.invariant_of-self-clause-snapshots
invariant_of-self-clause-snapshots c =
    let old = c.args.self.now in
    subst (AllCover (sessions_of old.sessions)) (sym c.append_all.ensures.floor) old.snapshots

pub invariant_of-self-clause-folded : goal.invariant_of-self-clause-folded
invariant_of-self-clause-folded c =
    let old = c.args.self.now in
    let committed = old.spread.committed in
    let here : old.spread.site.0 < length committed =
    subst (λ (i : SiteId). i.0 < length committed) (sym old.spread_site)
    (subst (λ (n : ℕ). old.site.0 < n) (sym old.spread_committed) old.here) in
    subst (Covers c.commit_own.new.self.committed) (sym c.append_all.ensures.floor)
    (subst (λ (S : Progress). Covers S.committed old.history.floor) (sym c.commit_own.ensures)
    (cover_raised old.history.floor committed old.spread.site.0 (own old.spread + 1) here old.folded (omega arith)))

pub returns-clause-stands : goal.returns-clause-stands
unfolding values_of site_of catalog_of
returns-clause-stands c = λ K S f sizes.
    let old = c.args.self.now in
    let h : Held = record { seq = c.args.seq; tx = c.args.tx } in
    stand_own (values_of old) K S old.here c.args.seq c.args.tx f sizes
    (subst (λ n. old.site.0 < n) (sym old.spread_sites) old.here) (subst (λ n. old.site.0 < n) (sym old.spread_committed) old.here) old.spread_site c.append.new.self.log
    c.append_all.new.history c.count_commit.new.totals c.commit_own.new.self c.commit_own-2.new.self.holdings c.unlock.new.self c.commit_decided.new.slow c.append.ensures.log
    (c.append_all.ensures.held old.catalog K.log h c.requires.made.rows f.declared S.rows)
    (subst (λ updates. CountsOwn updates old.totals c.count_commit.new.totals) c.as_slice.ensures c.count_commit.ensures.own)
    c.commit_own.ensures
    (c.commit_own-2.ensures.holdings ∙ ap (λ ks. with_own ks old.durable.holdings) c.requires.made.preferred)
    c.unlock.ensures.parts c.unlock.ensures.owners c.commit_decided.ensures.last c.commit_decided.ensures.commits
