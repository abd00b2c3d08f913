use Rattle.std.proofs.Common.{◌≡◌, ◌<◌, ℕ, None, Ok, Err, Result, length, refl, arith}
use Rattle.std.specs.Prelude.{IsOk, IfErr}
use Rattle.walter_session.specs.declared.session.StartFault.{StartFault}
use Rattle.walter_session.specs.declared.session.StartFault.TheVariants.{TxOpen, SessionsFull, NoMemory}
use Rattle.walter_session.specs.Sessions.{Table, session_of, sessions_of, CanStart, IsStartFault}
use Rattle.walter_tables.proofs.leaving.start.Goals as goal

-- nothing keeps a session from its start
starts : {T : Type 0} (table : Table) (client : ℕ) (r : Result T StartFault) → session_of table client ≡ None
    → length (sessions_of table) < 256 → CanStart table → IfErr r (IsStartFault table client) → IsOk r
starts table client (Ok done) none few room fault = refl
starts table client (Err TxOpen) none few room fault = absurd (cc)
starts table client (Err SessionsFull) none few room fault = absurd (omega (arith, few, fault.1))
starts table client (Err NoMemory) none few room fault = absurd (fault.2 room)

pub unwrap-requires : goal.unwrap-requires
unwrap-requires c =
    starts c.args.sessions.now c.args.client c.start.result c.requires.none c.requires.few c.requires.room
    c.start.ensures.fault
