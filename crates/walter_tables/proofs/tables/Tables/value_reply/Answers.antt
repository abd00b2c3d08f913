use Rattle.std.proofs.Common.{◌≡◌, ◌++◌, ap, ◌∙◌, rules}
use Rattle.std.specs.Option.{option_copied}
use Rattle.walter_base.specs.Values.{value_of}
use Rattle.walter_rows.specs.Rows.{seen_in}
use Rattle.walter_rules.specs.Calls.{read_updates}
use Rattle.walter_session.specs.Sessions.{session_view}
use Rattle.walter_tables.specs.Sites.{values_of, site_of, catalog_of}
use Rattle.walter_tables.proofs.tables.Tables.value_reply.Goals as goal

pub value_read-requires : goal.value_read-requires
value_read-requires c = c.in-Some.ensures.covers

pub returns-clause-rule : goal.returns-clause-rule
unfolding values_of site_of catalog_of
returns-clause-rule c = λ K S.
    let self = c.args.self.now in
    let s = session_view c.in-Some.session.now in
    let read : option_copied c.value_read.result ≡ value_of c.args.oid (read_updates K s) =
    c.value_read.ensures self.catalog K.log S.rows
    ∙ ap (λ own. value_of c.args.oid (seen_in s.snapshot K.log ++ own)) c.deref.ensures.value
    in
    search rules
