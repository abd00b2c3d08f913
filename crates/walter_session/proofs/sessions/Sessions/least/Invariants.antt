use Rattle.walter_session.specs.Sessions.{sessions_of}
use Rattle.walter_session.proofs.LeastSeen.{IsLeastSoFar}
use Rattle.walter_session.proofs.sessions.Sessions.least.Given as goal

abbrev pub invariant-loop-place : goal.invariant-loop-place
invariant-loop-place l = IsLeastSoFar l.most (sessions_of l.self) l.site l.least l.place
