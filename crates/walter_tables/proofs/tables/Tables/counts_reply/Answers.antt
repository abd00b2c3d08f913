use Rattle.std.proofs.Common.{◌≡◌, ◌++◌, ℕ, List, ap, sym, subst, ◌∙◌, rules}
use Rattle.walter_base.specs.Values.{counts_of}
use Rattle.walter_rows.specs.Rows.{seen_in, AreTotalsOf}
use Rattle.walter_rules.specs.Calls.{read_updates}
use Rattle.walter_session.specs.Sessions.{session_view}
use Rattle.walter_tables.specs.Sites.{values_of, site_of, catalog_of}
use Rattle.walter_tables.proofs.tables.Tables.counts_reply.Goals as goal

pub returns-then-as_slice-gt-MOST_SHOWN-clause-rule : goal.returns-then-as_slice-gt-MOST_SHOWN-clause-rule
unfolding values_of site_of catalog_of
returns-then-as_slice-gt-MOST_SHOWN-clause-rule c = λ K S.
    let self = c.args.self.now in
    let s = session_view c.in-Some.session.now in
    let read : c.in_ok-counts.counts ≡ counts_of c.args.oid (read_updates K s) =
    c.in_ok-counts.ensures self.catalog K.log S.rows (subst (λ (v : List ℕ). AreTotalsOf v K.log self.totals) (sym c.committed.ensures) S.totals)
    ∙ ap (λ own. counts_of c.args.oid (seen_in s.snapshot K.log ++ own)) c.deref.ensures.value
    in
    search rules

pub returns-clause-rule : goal.returns-clause-rule
unfolding values_of site_of catalog_of
returns-clause-rule c = λ K S.
    let self = c.args.self.now in
    let s = session_view c.in-Some.session.now in
    let read : c.in_ok-counts.counts ≡ counts_of c.args.oid (read_updates K s) =
    c.in_ok-counts.ensures self.catalog K.log S.rows (subst (λ (v : List ℕ). AreTotalsOf v K.log self.totals) (sym c.committed.ensures) S.totals)
    ∙ ap (λ own. counts_of c.args.oid (seen_in s.snapshot K.log ++ own)) c.deref.ensures.value
    in
    search rules
