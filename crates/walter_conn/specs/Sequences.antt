-- What a client's bytes call for, in order, and how far they were read (docs/FORMATS.md, "Frames of a client").
use Rattle.std.specs.Prelude.{◌≡◌, ◌⊎◌, ◌≤◌, ℕ, List, [], ◌∷◌, ◌++◌, length, Some, Err}
use Rattle.walter_conn.specs.Calls.{Incoming}
use Rattle.walter_conn.specs.Frames.{frame, Call, CallsFor, IsTooLong, IsBegun}
use Rattle.walter_conn.specs.declared.state.State.{State}
use Rattle.walter_conn.specs.declared.state.State.TheVariants.{Open, Closed, Broken}

-- a frame stands at the front and its body calls for this; the rest is behind it
pub record BeginsWith (bytes : List ℕ) (call : Call) (rest : List ℕ) : Type 0 where
  pub body : List ℕ
  pub short : length body ≤ 65536
  pub is_call : CallsFor body call
  pub is : bytes ≡ frame body ++ rest

-- a length that no frame has stands at the front, which is a bad frame; the rest is behind it
pub record BeginsTooLong (bytes : List ℕ) (call : Call) (rest : List ℕ) : Type 0 where
  pub front : List ℕ
  pub too_long : IsTooLong front
  pub bad : call ≡ Err (record { at = 0 })
  pub is : bytes ≡ front ++ rest

-- the calls are those of the frames at the front, in order; the rest is behind these
abbrev pub AreFrames : List ℕ → List Call → List ℕ → Type 0
AreFrames bytes [] rest = rest ≡ bytes
AreFrames bytes (call ∷ calls) rest = (after : List ℕ) × BeginsWith bytes call after × AreFrames after calls rest

-- the last call is that of a length that no frame has; the others are those of the frames in front of it
pub record EndTooLong (bytes : List ℕ) (calls : List Call) (rest : List ℕ) : Type 0 where
  pub others : List Call
  pub last : Call
  pub left : List ℕ
  pub is : calls ≡ others ++ (last ∷ [])
  pub frames : AreFrames bytes others left
  pub too_long : BeginsTooLong left last rest

-- the calls are the first ones of the bytes; the rest is behind them. Behind a length that no frame has there is no call
abbrev pub AreCalls : List ℕ → List Call → List ℕ → Type 0
AreCalls bytes calls rest = AreFrames bytes calls rest ⊎ EndTooLong bytes calls rest

-- the calls are all those of the bytes: nothing is behind them, or the last is of a length that no frame has
pub data EndWhole (bytes : List ℕ) (calls : List Call) : Type 0 where
  ended : AreFrames bytes calls [] → EndWhole bytes calls
  too_long : (rest : List ℕ) → EndTooLong bytes calls rest → EndWhole bytes calls

-- the calls are all those of the bytes, and behind them a frame is begun
pub record EndCut (bytes : List ℕ) (calls : List Call) : Type 0 where
  pub rest : List ℕ
  pub frames : AreFrames bytes calls rest
  pub begun : IsBegun rest

-- the calls are all those of the bytes
abbrev pub AreAllCalls : List ℕ → List Call → Type 0
AreAllCalls bytes calls = EndWhole bytes calls ⊎ EndCut bytes calls

abbrev pub IsFrontOf : List Call → List Call → Type 0
IsFrontOf some all = (more : List Call) × (all ≡ some ++ more)

-- what the calls are that were read from a connection in this state
abbrev pub AreRead : List ℕ → List Call → List ℕ → State → Type 0
AreRead bytes calls rest Open = AreFrames bytes calls rest
AreRead bytes calls rest Closed = EndTooLong bytes calls rest
AreRead bytes calls rest Broken = AreCalls bytes calls rest

-- of all the bytes that the client sends these calls were read, and what is behind them is unread
pub record HasCalled (bytes : List ℕ) (calls : List Call) (incoming : Incoming) : Type 0 where
  pub rest : List ℕ
  pub unread : incoming.unread ≡ Some rest
  pub read : AreRead bytes calls rest incoming.state
