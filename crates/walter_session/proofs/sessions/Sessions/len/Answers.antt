use Rattle.std.proofs.Common.{◌∙◌, length, sym, ap}
use Rattle.walter_session.specs.Sessions.{sessions_of}
use Rattle.walter_session.proofs.Links.{sessions_count}
use Rattle.walter_session.proofs.sessions.Sessions.len.Goals as goal

pub returns : goal.returns
returns c =
    sym (ap (λ table. length (sessions_of table)) (sym c.self.view_is)
    ∙ sessions_count c.self.inside.slots c.self.inside.keys.entries c.self.invariant.each ∙ sym c.len.ensures.len)
