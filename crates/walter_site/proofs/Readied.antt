-- What was made ready stays so where the tables change in nothing on which it rests.
use Rattle.std.proofs.Common.{◌≡◌, ◌+◌, ◌<◌, ◌≤◌, ℕ, List, length, All, Option, Some, None, IsSome, IsTrue, Result, ap, sym, ◌∙◌, subst}
use Rattle.std.specs.Prelude.{IsSomeAnd}
use Rattle.walter_base.specs.declared.catalog.Catalog.{Catalog}
use Rattle.walter_base.specs.declared.message.BadFrame.{BadFrame}
use Rattle.walter_base.specs.declared.message.Record.{Record}
use Rattle.walter_base.specs.declared.message.Record.TheVariants.{Boot, Own, Got, Seen, Prepared, Released, SlowBegin, SlowEnd, Marks, Format as FormatRecord}
use Rattle.walter_base.specs.declared.message.Reply.{Reply}
use Rattle.walter_base.specs.declared.message.Reply.TheVariants.{Started, Value, Done, Set, Count, Committed, Aborted, Deciding, Level, Ended, Unsure, Refused}
use Rattle.walter_base.specs.declared.message.Request.{Request}
use Rattle.walter_base.specs.declared.names.ObjId.{ObjId}
use Rattle.walter_base.specs.declared.names.SiteId.{SiteId}
use Rattle.walter_base.specs.declared.update.Update.{Update}
use Rattle.walter_base.specs.Vectors.{entry_at}
use Rattle.walter_durable.specs.Marks.{HoldingsWithRoom, CanJournal}
use Rattle.walter_cset.specs.Totals.{Table as Totals, HavePlaces}
use Rattle.walter_history.specs.Lines.{Table as History}
use Rattle.walter_locks.specs.Parts.{Table as Locks, part_of, owner_of, CanLock, CanRelease}
use Rattle.walter_log.specs.Logged.{Logged, room_of}
use Rattle.walter_site.specs.Plans.{CanKeepAny, CanTakeIn}
use Rattle.walter_rows.specs.Rows.{HaveRoom}
use Rattle.walter_rules.specs.declared.event.Input.{Input}
use Rattle.walter_rules.specs.declared.event.Input.TheVariants.{Call, Deliver, Advance, Tick, Upgrade}
use Rattle.walter_rules.specs.declared.outcome.Outcome.{Outcome}
use Rattle.walter_rules.specs.declared.outcome.Outcome.TheVariants.{Replied, Taken, Passed, Failed, Full, Memory, Down, Refused as IsRefused}
use Rattle.walter_rules.specs.Deliveries.{is_peer}
use Rattle.walter_rules.specs.Learning.{updated}
use Rattle.walter_rules.specs.Slow.{Free}
use Rattle.walter_rules.proofs.RuleTests.{peer_true}
use Rattle.walter_session.specs.Sessions.{Table as SessionTable, session_of, sessions_of, room_of as room_of_session, CanStart}
use Rattle.walter_slow.specs.Tables.{Table as SlowCommits, CanBegin}
use Rattle.walter_spread.specs.Propagation.{Progress, own}
use Rattle.walter_tables.specs.declared.made.Made.{Made}
use Rattle.walter_tables.specs.declared.tables.Tables.{Tables}
use Rattle.walter_tables.specs.Answering.{CanBeAnswered, CanAnswer}
use Rattle.walter_tables.specs.Keeping.{GoesOn, HasRoomFor, IsMadeFor, IsKnownSite, AreUnlocked, updates_at, objects_here, asked_of}
use Rattle.walter_tables.specs.Open.{IsOpenAt}
use Rattle.walter_tables.specs.Sites.{site_of, catalog_of}

module _ (old new : Tables) (site : new.site ≡ old.site) (catalog : new.catalog ≡ old.catalog) where
  peer_kept : (j : SiteId) → IsTrue (is_peer old.catalog old.site j) → IsTrue (is_peer new.catalog new.site j)
  peer_kept j is =
      subst (λ (c : Catalog). IsTrue (is_peer c new.site j)) (sym catalog)
      (subst (λ (s : SiteId). IsTrue (is_peer old.catalog s j)) (sym site) is)

  made_kept : (rec : Record) (made : Made) → IsMadeFor old.catalog old.site rec made
      → IsMadeFor new.catalog new.site rec made
  made_kept rec made is =
      subst (λ (c : Catalog). IsMadeFor c new.site rec made) (sym catalog)
      (subst (λ (s : SiteId). IsMadeFor old.catalog s rec made) (sym site) is)

  -- what a record needs of the tables
  module _ (log : new.log ≡ old.log) (history : new.history ≡ old.history) (totals : new.totals ≡ old.totals) (spread : new.spread ≡ old.spread)
      (durable : new.durable ≡ old.durable) (locks : new.locks ≡ old.locks) (slow : new.slow ≡ old.slow) where
    by_history : (updates : List Update) → HaveRoom old.history updates → HaveRoom new.history updates
    by_history updates room = subst (λ (h : History). HaveRoom h updates) (sym history) room

    by_totals : (updates : List Update) → HavePlaces old.totals updates → HavePlaces new.totals updates
    by_totals updates places = subst (λ (t : Totals). HavePlaces t updates) (sym totals) places

    by_log : (j : SiteId) → 0 < room_of old.log j → 0 < room_of new.log j
    by_log j room = subst (λ (l : Logged). 0 < room_of l j) (sym log) room

    by_spread : (P : Progress → Type 0) → P old.spread → P new.spread
    by_spread P h = subst P (sym spread) h

    by_durable : (P : HoldingsWithRoom → Type 0) → P old.durable → P new.durable
    by_durable P h = subst P (sym durable) h

    by_locks : (P : Locks → Type 0) → P old.locks → P new.locks
    by_locks P h = subst P (sym locks) h

    by_slow : (P : SlowCommits → Type 0) → P old.slow → P new.slow
    by_slow P h = subst P (sym slow) h

    by_place : (P : Catalog → SiteId → Type 0) → P old.catalog old.site → P new.catalog new.site
    by_place P h = subst (λ c. P c new.site) (sym catalog) (subst (λ s. P old.catalog s) (sym site) h)

    unlocked_kept : (objects : List ObjId) → AreUnlocked old objects → AreUnlocked new objects
    unlocked_kept objects all = by_locks (λ l. All (λ oid. owner_of l oid ≡ None) objects) all

    goes_kept : (rec : Record) → GoesOn old rec → GoesOn new rec
    goes_kept (Boot epoch) on = tt
    goes_kept (Own seq tx) on = (by_spread (λ s. seq ≡ own s + 1) on.0, on.1 ∙ sym site)
    goes_kept (Got j seq tx) on =
        ((by_spread (λ s. seq ≡ entry_at s.got j + 1) on.0.0, peer_kept j on.0.1), on.1)
    goes_kept (Seen j seq) on = (
      by_spread (λ s. seq ≡ entry_at s.committed j + 1) on.0,
      by_spread (λ s. seq ≤ entry_at s.got j) on.1,
      peer_kept j on.2,
    )
    goes_kept (Prepared j n tid objects) on =
        (by_locks (λ l. part_of l j n ≡ Free) on.0, unlocked_kept objects on.1, peer_kept j on.2)
    goes_kept (Released j n) on = peer_kept j on
    goes_kept (SlowBegin n tx) on = (
      by_slow (λ s. n ≡ s.last + 1) on.0,
      by_place (λ c i. AreUnlocked new (objects_here c i tx.updates)) (unlocked_kept _ on.1),
    )
    goes_kept (SlowEnd n) on = tt
    goes_kept (Marks stays shown) on = by_durable (λ d. CanJournal d.holdings stays shown) on
    goes_kept FormatRecord on = tt

    room_kept : (rec : Record) → HasRoomFor old rec → HasRoomFor new rec
    room_kept (Boot epoch) room = tt
    room_kept (Own seq tx) room = (
      subst (λ s. 0 < room_of new.log s) (sym site) (by_log old.site room.0),
      by_history tx.updates room.1,
      by_totals tx.updates room.2,
      by_durable (λ d. 0 < d.room) room.3,
    )
    room_kept (Got j seq tx) room = (by_log j room.0, by_history tx.updates room.1)
    room_kept (Seen j seq) room = (
      subst (λ (l : Logged). HavePlaces new.totals (updates_at j seq l.log)) (sym log)
          (by_totals (updates_at j seq old.log.log) room.0),
      by_locks (λ l. CanRelease l j) room.1,
    )
    room_kept (Prepared j n tid objects) room = by_locks (λ l. CanLock l (length objects)) room
    room_kept (Released j n) room = by_locks (λ l. CanRelease l j) room
    room_kept (SlowBegin n tx) room = (
      by_place (λ c i. CanLock new.locks (length (objects_here c i tx.updates)))
          (by_locks (λ l. CanLock l (length (objects_here old.catalog old.site tx.updates))) room.0),
      by_place (λ c i. CanBegin new.slow (length (asked_of c i tx.updates)))
          (by_slow (λ s. CanBegin s (length (asked_of old.catalog old.site tx.updates))) room.1),
    )
    room_kept (SlowEnd n) room = tt
    room_kept (Marks stays shown) room = tt
    room_kept FormatRecord room = tt

  -- what the answer to a call needs of them
  module _ (starts : new.starts ≡ old.starts) (sessions : new.sessions ≡ old.sessions) where
    by_sessions : (P : SessionTable → Type 0) → P old.sessions → P new.sessions
    by_sessions P h = subst P (sym sessions) h

    fits_kept : (client : ℕ) (call : Result Request BadFrame) (reply : Reply) → CanBeAnswered old client call reply
        → CanBeAnswered new client call reply
    fits_kept client call (Started tid) fits = record {
      none = by_sessions (λ ss. session_of ss client ≡ None) fits.none;
      few = by_sessions (λ ss. length (sessions_of ss) < 256) fits.few;
      here = fits.here ∙ sym site;
      next = fits.next ∙ ap (λ (n : ℕ). n + 1) (sym starts);
    }
    fits_kept client call Done fits =
        by_sessions (λ ss. IsSomeAnd (session_of ss client) (λ s. IsOpenAt new.catalog new.site (updated call s)))
        (subst (λ (c : Catalog). IsSomeAnd (session_of old.sessions client) (λ s. IsOpenAt c new.site (updated call s)))
        (sym catalog)
        (subst (λ (i : SiteId). IsSomeAnd (session_of old.sessions client)
        (λ s. IsOpenAt old.catalog i (updated call s))) (sym site) fits))
    fits_kept client call (Value value) fits = tt
    fits_kept client call (Set counts) fits = tt
    fits_kept client call (Count count) fits = tt
    fits_kept client call (Committed version) fits = tt
    fits_kept client call (Aborted cause) fits = tt
    fits_kept client call (Deciding tid) fits = tt
    fits_kept client call (Level level) fits = tt
    fits_kept client call Ended fits = tt
    fits_kept client call (Unsure tid) fits = tt
    fits_kept client call (Refused refusal) fits = tt

    answer_kept : (client : ℕ) (reply : Reply) → CanAnswer old client reply → CanAnswer new client reply
    answer_kept client (Started tid) can = by_sessions CanStart can
    answer_kept client Done can =
        by_sessions (λ ss. IsSome (session_of ss client) → 0 < room_of_session ss client) can
    answer_kept client (Value value) can = tt
    answer_kept client (Set counts) can = tt
    answer_kept client (Count count) can = tt
    answer_kept client (Committed version) can = tt
    answer_kept client (Aborted cause) can = tt
    answer_kept client (Deciding tid) can = tt
    answer_kept client (Level level) can = tt
    answer_kept client Ended can = tt
    answer_kept client (Unsure tid) can = tt
    answer_kept client (Refused refusal) can = tt

    taken_kept : (client : ℕ) (call : Result Request BadFrame) (outcome : Outcome) (asked : Option Update)
        → CanTakeIn old (Call client call) outcome asked → CanTakeIn new (Call client call) outcome asked
    taken_kept client call (Replied reply) asked can =
        (fits_kept client call reply can.0, answer_kept client reply can.1, can.2)
    taken_kept client call Taken asked can = tt
    taken_kept client call Passed asked can = tt
    taken_kept client call Failed asked can = tt
    taken_kept client call (Full need left) asked can = tt
    taken_kept client call Memory asked can = tt
    taken_kept client call Down asked can = tt
    taken_kept client call IsRefused asked can = tt

    pub takes_in_kept : (input : Input) (outcome : Outcome) (asked : Option Update) → CanTakeIn old input outcome asked
        → CanTakeIn new input outcome asked
    takes_in_kept (Call client call) outcome asked can = taken_kept client call outcome asked can
    takes_in_kept (Deliver from number packet) outcome asked can = tt
    takes_in_kept (Advance from) outcome asked can = tt
    takes_in_kept Tick outcome asked can = tt
    takes_in_kept Upgrade outcome asked can = tt

-- what is made for a record stays so
pub keeps_kept : (old new : Tables) → new.site ≡ old.site → new.catalog ≡ old.catalog → new.log ≡ old.log
    → new.history ≡ old.history → new.totals ≡ old.totals → new.spread ≡ old.spread → new.durable ≡ old.durable → new.locks ≡ old.locks
    → new.slow ≡ old.slow → (rec : Option Record) (made : Option Made) → CanKeepAny old rec made
    → CanKeepAny new rec made
unfolding site_of catalog_of
keeps_kept old new site catalog log history totals spread durable locks slow None None can = tt
keeps_kept old new site catalog log history totals spread durable locks slow (Some rec) (Some made) can = record {
  on = goes_kept old new site catalog log history totals spread durable locks slow rec can.on;
  room = room_kept old new site catalog log history totals spread durable locks slow rec can.room;
  made_for = made_kept old new site catalog rec made can.made_for;
}
keeps_kept old new site catalog log history totals spread durable locks slow None (Some made) can = absurd can
keeps_kept old new site catalog log history totals spread durable locks slow (Some rec) None can = absurd can

-- a record that goes on is of a site of the catalog
pub known_site : (t : Tables) (rec : Record) → GoesOn t rec → IsKnownSite (catalog_of t) rec
unfolding catalog_of
known_site t (Boot epoch) on = tt
known_site t (Own seq tx) on = tt
known_site t (Got j seq tx) on = (peer_true t.catalog t.site j on.0.1).0
known_site t (Seen j seq) on = (peer_true t.catalog t.site j on.2).0
known_site t (Prepared j n tid objects) on = tt
known_site t (Released j n) on = (peer_true t.catalog t.site j on).0
known_site t (SlowBegin n tx) on = tt
known_site t (SlowEnd n) on = tt
known_site t (Marks stays shown) on = tt
known_site t FormatRecord on = tt
