use Rattle.std.proofs.Common.{◌≡◌, arith, subst}
use Rattle.walter_session.specs.Sessions.{sessions_of}
use Rattle.walter_session.proofs.LeastSeen.{IsFloorSoFar, floor_all}
use Rattle.walter_session.proofs.sessions.Sessions.floor.Goals as goal

pub returns-clause-floor : goal.returns-clause-floor
returns-clause-floor c =
    let done : c.loop-k.k ≡ c.args.sites = omega (arith, c.loop-k-test.false, c.loop-k.auto.k-end) in
    floor_all c.args.committed.now (sessions_of c.args.self.now) c.loop-k.floor c.args.sites c.requires.among
    (subst (IsFloorSoFar c.args.committed.now (sessions_of c.args.self.now) c.loop-k.floor c.args.sites) done c.loop-k.invariant)
