use Rattle.std.proofs.Common.{IfSome, sym, subst}
use Rattle.walter_session.specs.Sessions.{sessions_of}
use Rattle.walter_tables.specs.Open.{IsOpenAt}
use Rattle.walter_base.specs.Vectors.{Covers}
use Rattle.walter_tables.proofs.CoveredFloors.{covers_session}
use Rattle.walter_tables.proofs.Opened.{session_is}
use Rattle.walter_tables.proofs.tables.Tables.open_session.Goals as goal

pub returns-clause-small : goal.returns-clause-small
returns-clause-small c =
    let self = c.args.self.now in
    let is = session_is self.catalog self.site c.args.client (sessions_of self.sessions) self.open in
    (subst (λ o. IfSome o (IsOpenAt self.catalog self.site)) (sym c.in_ok-session.ensures) is).small

pub returns-clause-covers : goal.returns-clause-covers
returns-clause-covers c =
    let self = c.args.self.now in
    let is = covers_session self.history.floor c.args.client (sessions_of self.sessions) self.snapshots in
    subst (λ o. IfSome o (λ s. Covers s.snapshot self.history.floor)) (sym c.in_ok-session.ensures) is
