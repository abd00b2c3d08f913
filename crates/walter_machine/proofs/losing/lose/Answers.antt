use Rattle.std.proofs.Common.{◌≡◌, Option, None, subst}
use Rattle.std.specs.Prelude.{IfSome}
use Rattle.walter_machine.proofs.losing.lose.Goals as goal
use Rattle.walter_rules.specs.Learning.{after}
use Rattle.walter_session.specs.Sessions.{sessions_of}
use Rattle.walter_site.specs.Members.{Knows}
use Rattle.walter_tables.specs.declared.tables.Tables.{Tables}
use Rattle.walter_tables.specs.Sites.{site_of, catalog_of}

pub returns-in-Some-clause-lost : goal.returns-in-Some-clause-lost
returns-in-Some-clause-lost c = λ K.
    subst (λ (o : Option Tables). IfSome o (λ t. Knows t K → sessions_of c.lost_with.result
    ≡ (after (catalog_of t) (site_of t) K c.args.event.now c.args.outcome.now None).sessions)) c.in-Some.ensures.value (c.lost_with.ensures K)
