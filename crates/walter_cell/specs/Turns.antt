-- What a client's turn comes to, by what is known of its connection before and after, whatever its source tells.
use Rattle.std.specs.Prelude.{◌≡◌, ◌≢◌, ◌+◌, ◌⊎◌, ℕ, List, [], ◌∷◌, ◌++◌, Option, slice_get}
use Rattle.std.specs.List.{concat}
use Rattle.walter_conn.specs.Calls.{Incoming, TakesCall, IsEnded, IsBroken}
use Rattle.walter_conn.specs.Frames.{Call}
use Rattle.walter_conn.specs.declared.state.State.TheVariants as state
use Rattle.walter_rules.specs.declared.entry.Entry.{Entry}
use Rattle.walter_rules.specs.declared.event.Event.TheVariants as event
use Rattle.walter_rules.specs.declared.event.Input.TheVariants as input
use Rattle.walter_stream.specs.Streams.{Appends}
use Rattle.walter_cell.specs.declared.answers.Serve.{Serve}
use Rattle.walter_cell.specs.declared.answers.Serve.TheVariants as serve
use Rattle.walter_cell.specs.Cells.{CellValue}
use Rattle.walter_cell.specs.Entries.{IsSpent, HasPlace}
use Rattle.walter_cell.specs.Lines.{LineValue, OfLine}
use Rattle.walter_cell.specs.Nodes.{clock_in}
use Rattle.walter_cell.specs.Written.{framed_reply, IsCutOff}

-- nothing comes to the trail, and nothing is sent
pub record BringsNothing (before after : LineValue) (old new : List Entry) : Type 0 where
  pub trail : new ≡ old
  pub sent : after.sent ≡ before.sent

-- a call was taken from the client, and its entry stands last in the trail
pub record BringsCall (client : ℕ) (before after : Incoming) (old new : List Entry) : Type 0 where
  pub call : Call
  pub takes : TakesCall before after call
  pub entry : Entry
  pub trail : new ≡ old ++ entry ∷ []
  pub event_is : entry.event ≡ event.Given (input.Call client call)

-- a call came, and its reply was written whole, where it has one
pub record GivesReply (client : ℕ) (before after : LineValue) (old new : List Entry) : Type 0 where
  pub brings : BringsCall client before.incoming after.incoming old new
  pub whole : Appends before.sent.held after.sent.held (concat (framed_reply brings.entry.came.outcome))
  pub faultless : after.sent.faults ≡ before.sent.faults

-- a call came, and its reply was cut off, which breaks the connection
pub record LosesReply (client : ℕ) (before after : LineValue) (old new : List Entry) : Type 0 where
  pub read : Incoming
  pub brings : BringsCall client before.incoming read old new
  pub cut_off : IsCutOff brings.entry.came.outcome after.incoming.state before.sent after.sent
  pub broken : after.incoming ≡ record read { state = state.Broken }

-- what a client's turn comes to: the trail is spent; or nothing follows; or the connection breaks, or was broken before,
-- or a call came whose reply was cut off; or a call was answered
abbrev pub ServesTo : (client clock : ℕ) → (before after : LineValue) → (old new : List Entry) → Serve → Type 0
ServesTo client clock before after old new serve.Spent = IsSpent (clock + 1) old × (new ≡ old) × (after ≡ before)
ServesTo client clock before after old new serve.Ended =
    HasPlace (clock + 1) old × IsEnded before.incoming after.incoming × BringsNothing before after old new
ServesTo client clock before after old new serve.Broken = HasPlace (clock + 1) old
    × ((IsBroken before.incoming after.incoming × BringsNothing before after old new)
    ⊎ LosesReply client before after old new)
ServesTo client clock before after old new serve.Served =
    HasPlace (clock + 1) old × GivesReply client before after old new

-- so does the turn of a client whose connection is here
abbrev pub ServesAt : {D : Type 0} → ℕ → (old new : CellValue D) → Serve → Type 0
ServesAt client old new answer = OfLine old.lines client (λ before. OfLine new.lines client (λ after.
    ServesTo client (clock_in old.node) before after old.node.trail new.node.trail answer))

-- but for the connection of this client they are as before
abbrev pub AreSameBut : ℕ → (old new : List (Option LineValue)) → Type 0
AreSameBut client old new = (other : ℕ) → other ≢ client → slice_get new other ≡ slice_get old other
