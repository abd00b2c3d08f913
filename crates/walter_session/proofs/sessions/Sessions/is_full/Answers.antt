use Rattle.std.proofs.Common.{◌≡◌, ◌∙◌, length, sym, ap, subst, arith}
use Rattle.std.proofs.lemmas.Bool.Decides.{nat_tests}
use Rattle.walter_base.specs.ByClient.{AreApart}
use Rattle.walter_base.proofs.ByClient.{seen-apart}
use Rattle.walter_session.specs.Sessions.{SessionWithRoom, sessions_of, clients_in}
use Rattle.walter_session.proofs.Links.{sessions_count, kept_apart}
use Rattle.walter_session.proofs.sessions.Sessions.is_full.Goals as goal

pub returns-clause-full : goal.returns-clause-full
returns-clause-full c =
    let count : length (sessions_of c.args.self.now) ≡ c.len.result =
    ap (λ table. length (sessions_of table)) (sym c.self.view_is) ∙ sessions_count c.self.inside.slots c.self.inside.keys.entries c.self.invariant.each ∙ sym c.len.ensures.len in
    grind (arith, nat_tests)

pub returns-clause-apart : goal.returns-clause-apart
returns-clause-apart c =
    let clients = clients_in c.self.inside.slots c.self.inside.keys.entries in
    subst (λ table. AreApart (sessions_of table)) c.self.view_is (seen-apart (λ (k : SessionWithRoom). k.session) clients (kept_apart c.self.inside.slots c.self.inside.keys.entries c.self.invariant.each c.self.invariant.apart))
