use Rattle.std.proofs.Common.{◌≡◌, ◌++◌, ℕ, List, ap, sym, subst, ◌∙◌, rules}
use Rattle.walter_base.specs.Values.{count_of}
use Rattle.walter_rows.specs.Rows.{seen_in, AreTotalsOf}
use Rattle.walter_rules.specs.Calls.{read_updates}
use Rattle.walter_session.specs.Sessions.{session_view}
use Rattle.walter_tables.specs.Sites.{values_of, site_of, catalog_of}
use Rattle.walter_tables.proofs.tables.Tables.count_reply.Goals as goal

pub returns-clause-rule : goal.returns-clause-rule
unfolding values_of site_of catalog_of
returns-clause-rule c = λ K S.
    let self = c.args.self.now in
    let s = session_view c.in-Some.session.now in
    let read : c.count_read.result ≡ count_of c.args.oid c.args.id (read_updates K s) =
    c.count_read.ensures self.catalog K.log S.rows (subst (λ (v : List ℕ). AreTotalsOf v K.log self.totals) (sym c.committed-committed.ensures) S.totals)
    ∙ ap (λ own. count_of c.args.oid c.args.id (seen_in s.snapshot K.log ++ own)) c.deref.ensures.value
    in
    search rules
