use Rattle.std.proofs.Common.{◌≡◌, ℕ, ◌<◌, ◌&&◌, nat_eq, false}
use Rattle.walter_base.specs.Names.{same_tid}
use Rattle.walter_session.specs.Sessions.{sessions_of}
use Rattle.walter_session.proofs.Lists.{passes_at}
use Rattle.walter_session.proofs.sessions.Sessions.has_open.Given as goal

abbrev pub invariant-loop-place : goal.invariant-loop-place
invariant-loop-place l = (place : ℕ) → place < l.place → passes_at (λ s. same_tid l.tid s.1.tid && nat_eq s.1.slow 0) (sessions_of l.self) place ≡ false
