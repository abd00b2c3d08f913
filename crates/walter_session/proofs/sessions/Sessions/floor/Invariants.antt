use Rattle.walter_session.specs.Sessions.{sessions_of}
use Rattle.walter_session.proofs.LeastSeen.{IsFloorSoFar}
use Rattle.walter_session.proofs.sessions.Sessions.floor.Given as goal

abbrev pub invariant-loop-k : goal.invariant-loop-k
invariant-loop-k l = IsFloorSoFar l.committed (sessions_of l.self) l.floor l.sites l.k
