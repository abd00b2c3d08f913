use Rattle.std.proofs.Common.{◌<◌, map, ap, sym, ◌∙◌, subst}
use Rattle.walter_base.specs.declared.update.Row.{Row}
use Rattle.walter_rows.specs.Rows.{HaveRoom}
use Rattle.walter_rows.proofs.HeldRows.{updates_back}
use Rattle.walter_rules.specs.Log.{version_of}
use Rattle.walter_rules.proofs.RuleTests.{peer_true}
use Rattle.walter_tables.specs.Sites.{values_of, site_of, catalog_of}
use Rattle.walter_tables.proofs.StandKept.{stand_got}
use Rattle.walter_tables.proofs.tables.Tables.keep_got.Goals as goal

pub append_all-requires : goal.append_all-requires
unfolding values_of site_of catalog_of
append_all-requires c =
    let tx = c.args.tx in
    let version = version_of (record { seq = c.args.seq; tx = tx }) in
    subst (HaveRoom c.args.self.now.history)
    (sym (ap (map (λ (r : Row). r.update)) c.requires.made.rows ∙ updates_back version tx.updates)) c.requires.room.1

pub receive-requires-clause-within : goal.receive-requires-clause-within
unfolding values_of site_of catalog_of
receive-requires-clause-within c =
    let old = c.args.self.now in
    subst (λ n. c.args.from.0 < n) (sym old.spread_sites) (peer_true old.catalog old.site c.args.from c.requires.on.0.1).0

pub returns-clause-stands : goal.returns-clause-stands
unfolding values_of site_of catalog_of
returns-clause-stands c = λ K S f sizes.
    let old = c.args.self.now in
    stand_got (values_of old) K S old.here c.args.from c.args.seq c.args.tx f sizes (subst (λ n. c.args.from.0 < n) (sym old.spread_sites) (peer_true old.catalog old.site c.args.from c.requires.on.0.1).0) c.append.new.self.log
    c.append_all.new.history c.receive.new.self c.append.ensures.log
    (c.append_all.ensures.held old.catalog K.log (record { seq = c.args.seq; tx = c.args.tx }) c.requires.made.rows f.declared S.rows)
    c.receive.ensures
