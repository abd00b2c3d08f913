-- What is written to the connections of clients.
use Rattle.std.specs.Prelude.{◌≡◌, ◌<◌, ◌⊎◌, ℕ, nat_eq, List, [], ◌∷◌, ◌++◌, flat_map, take, Option, IfSome}
use Rattle.std.specs.Prelude.{if◌then◌else◌}
use Rattle.std.specs.List.{concat}
use Rattle.walter_conn.specs.Frames.{frame}
use Rattle.walter_conn.specs.declared.state.State.{State}
use Rattle.walter_conn.specs.declared.state.State.TheVariants as state
use Rattle.walter_reply.specs.Replies.{reply_spelled}
use Rattle.walter_rules.specs.declared.entry.Entry.{Entry}
use Rattle.walter_rules.specs.declared.event.Event.{Event}
use Rattle.walter_rules.specs.declared.event.Event.TheVariants.{Given}
use Rattle.walter_rules.specs.declared.event.Input.TheVariants.{Call}
use Rattle.walter_rules.specs.declared.outcome.Outcome.{Outcome}
use Rattle.walter_rules.specs.declared.outcome.Outcome.TheVariants.{Replied}
use Rattle.walter_stream.specs.Streams.{AppendsFront}
use Rattle.walter_cell.specs.Lines.{Sent, LineValue, OfLine}

-- the frame of a reply, where an outcome is one
abbrev pub framed_reply : Outcome → List (List ℕ)
framed_reply (Replied reply) = frame (reply_spelled reply) ∷ []
framed_reply outcome = []

-- the frame of the reply to a call of this client, where an event is one
abbrev pub framed_for : ℕ → Event → Outcome → List (List ℕ)
framed_for client (Given (Call caller call)) outcome = if nat_eq caller client then framed_reply outcome else []
framed_for client event outcome = []

-- the frames of the replies to the calls of a client, in order
abbrev pub replies_to : ℕ → List Entry → List (List ℕ)
replies_to client trail = flat_map (λ (e : Entry). framed_for client e.event e.came.outcome) trail

-- behind these bytes all the replies were written but the last, and a front of that one
pub record IsCutShort (before : List ℕ) (replies : List (List ℕ)) (held : List ℕ) : Type 0 where
  pub whole : List (List ℕ)
  pub last : List ℕ
  pub count : ℕ
  pub replies_are : replies ≡ whole ++ last ∷ []
  pub held_is : held ≡ before ++ (concat whole ++ take count last)

-- a sink that holds so much holds all the replies behind these bytes; or the last was cut short where the sink failed,
-- and the connection is broken
abbrev pub IsHeld : List ℕ → List (List ℕ) → State → Sent → List ℕ → Type 0
IsHeld before replies now sent held =
    (held ≡ before ++ concat replies)
    ⊎ ((now ≡ state.Broken) × (0 < sent.faults) × IsCutShort before replies held)

-- so were the replies written to a sink, where it tells what it holds
abbrev pub AreWritten : List ℕ → List (List ℕ) → State → Sent → Type 0
AreWritten before replies now sent = IfSome sent.held (λ held. IsHeld before replies now sent held)

-- the replies to the calls of a client were written so to its connection
abbrev pub AreWrittenAt : List ℕ → ℕ → List Entry → List (Option LineValue) → Type 0
AreWrittenAt before number trail lines =
    OfLine lines number (λ line. AreWritten before (replies_to number trail) line.incoming.state line.sent)

-- of a reply a front was written, and behind it the sink failed
pub record IsCutOff (outcome : Outcome) (now : State) (old new : Sent) : Type 0 where
  pub reply : List ℕ
  pub is : framed_reply outcome ≡ reply ∷ []
  pub front : AppendsFront old.held new.held reply
  pub broken : now ≡ state.Broken
  pub failed : old.faults < new.faults
