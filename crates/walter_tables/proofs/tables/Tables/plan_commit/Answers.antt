use Rattle.std.proofs.Common.{◌≡◌, Some, Option, sym, subst}
use Rattle.std.specs.Prelude.{IfSome}
use Rattle.walter_rules.specs.Sessions.{Session}
use Rattle.walter_session.specs.Sessions.{sessions_of, session_of, session_view}
use Rattle.walter_tables.specs.Open.{IsOpenAt}
use Rattle.walter_tables.specs.Sites.{values_of, site_of, catalog_of}
use Rattle.walter_tables.proofs.Opened.{session_is}
use Rattle.walter_tables.proofs.tables.Tables.plan_commit.Goals as goal

pub plan_open-requires-clause-open : goal.plan_open-requires-clause-open
unfolding values_of site_of catalog_of
plan_open-requires-clause-open c =
    let now = c.args.self.now in
    let there : session_of now.sessions c.args.client ≡ Some (session_view c.in-Some.session.now) = sym c.in-Some.ensures in
    subst (λ (o : Option Session). IfSome o (IsOpenAt now.catalog now.site)) there
    (session_is now.catalog now.site c.args.client (sessions_of now.sessions) now.open)
