use Rattle.std.proofs.Common.{ap, sym}
use Rattle.walter_base.proofs.ByClient.{changed-same}
use Rattle.walter_session.specs.Sessions.{sessions_of}
use Rattle.walter_tables.specs.Answering.{with_any}
use Rattle.walter_tables.proofs.leaving.update.Goals as goal

pub returns-in_default : goal.returns-in_default
returns-in_default c =
    sym (changed-same c.args.client (with_any c.args.update) (sessions_of c.args.sessions.now)
    (λ s. ap (λ update. with_any update s) c.in_default.is))
