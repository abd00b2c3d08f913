-- Rows that are as short as those who read leave them.
use Rattle.walter_base.specs.declared.names.ObjId.{ObjId}
use Rattle.walter_history.specs.Kept.{IsFoldedAt}
use Rattle.walter_history.specs.Lines.{kept_of}
use Rattle.walter_session.specs.Floors.{IsFloor}
use Rattle.walter_session.specs.Sessions.{sessions_of}
use Rattle.walter_tables.specs.declared.tables.Tables.{Tables}

-- each row is folded at the floor of the site: what is committed here, as far as each session's snapshot has it
pub record IsTidy (t : Tables) : Type 0 where
  pub floor : IsFloor t.spread.committed (sessions_of t.sessions) t.history.floor
  pub folded : (oid : ObjId) → IsFoldedAt t.history.floor (kept_of t.history oid)
