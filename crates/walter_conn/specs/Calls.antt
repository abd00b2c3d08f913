-- What is known of what a client sends, and what a connection makes of it (docs/FORMATS.md, "Frames of a client").
use Rattle.std.specs.Prelude.{◌≡◌, ◌⊎◌, ◌<◌, ◌≤◌, ℕ, List, length, Option, Err}
use Rattle.walter_stream.specs.Streams.{AtEnd, TakesFront}
use Rattle.walter_conn.specs.Frames.{frame, Call, CallsFor, IsTooLong, EndsInFrame}
use Rattle.walter_conn.specs.declared.next.Next.{Next}
use Rattle.walter_conn.specs.declared.next.Next.TheVariants.{Frame, Ended, Broken}
use Rattle.walter_conn.specs.declared.state.State.{State}
use Rattle.walter_conn.specs.declared.state.State.TheVariants as state

-- the bytes that are to come, where that is told, how often the source has failed, and whether it is read on
pub record Incoming : Type 0 where
  pub unread : Option (List ℕ)
  pub faults : ℕ
  pub state : State

abbrev pub fresh_incoming : Option (List ℕ) → ℕ → Incoming
fresh_incoming unread faults = record { unread = unread; faults = faults; state = state.Open }

-- a frame was taken from the front, and its body calls for this
pub record TakesFrame (old new : Incoming) (call : Call) : Type 0 where
  pub body : List ℕ
  pub short : length body ≤ 65536
  pub is_call : CallsFor body call
  pub taken : TakesFront old.unread new.unread (frame body)
  pub still_open : new.state ≡ state.Open

-- a length that no frame has was taken from the front, and nothing is read behind it
pub record TakesTooLong (old new : Incoming) (call : Call) : Type 0 where
  pub front : List ℕ
  pub too_long : IsTooLong front
  pub bad : call ≡ Err (record { at = 0 })
  pub taken : TakesFront old.unread new.unread front
  pub closed : new.state ≡ state.Closed

-- a call was taken from what is read on, without a fault
pub record TakesCall (old new : Incoming) (call : Call) : Type 0 where
  pub was_open : old.state ≡ state.Open
  pub faultless : new.faults ≡ old.faults
  pub takes : TakesFrame old new call ⊎ TakesTooLong old new call

-- nothing follows, and nothing is read
pub record IsEnded (old new : Incoming) : Type 0 where
  pub same : new ≡ old
  pub cause : (old.state ≡ state.Closed) ⊎ ((old.state ≡ state.Open) × AtEnd old.unread)

-- it was broken before; or a call on the source failed; or the source ended inside a frame
pub data IsBroken (old new : Incoming) : Type 0 where
  before : old.state ≡ state.Broken → new ≡ old → IsBroken old new
  fault : old.state ≡ state.Open → old.faults < new.faults → new.unread ≡ old.unread → new.state ≡ state.Broken → IsBroken old new
  cut : old.state ≡ state.Open → EndsInFrame old.unread → new ≡ record old { state = state.Broken } → IsBroken old new

-- what a connection may answer
abbrev pub Answers : (old new : Incoming) → Next → Type 0
Answers old new (Frame call) = TakesCall old new call
Answers old new Ended = IsEnded old new
Answers old new Broken = IsBroken old new
