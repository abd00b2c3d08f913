use Rattle.std.proofs.Common.{◌≡◌, Option, subst}
use Rattle.std.specs.Prelude.{IfSome}
use Rattle.walter_machine.proofs.following.fall.Goals as goal
use Rattle.walter_session.specs.Sessions.{sessions_of}
use Rattle.walter_site.specs.Members.{Knows}
use Rattle.walter_tables.specs.declared.tables.Tables.{Tables}

pub returns-in-Some-clause-lost : goal.returns-in-Some-clause-lost
returns-in-Some-clause-lost c = λ K.
    subst (λ (o : Option Tables). IfSome o (λ t. Knows t K → sessions_of c.into_sessions.result ≡ K.sessions))
    c.in-Some.ensures.value (c.into_sessions.ensures K)
