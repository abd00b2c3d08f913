-- A client's frames (docs/FORMATS.md, "Frames of a client").
use Rattle.std.specs.Prelude.{◌≡◌, ◌≢◌, ◌⊎◌, ◌<◌, ◌≤◌, ◌^◌, ℕ, List, [], ◌++◌, length, Option, Some, None, Result, Ok, Err}
use Rattle.walter_base.specs.declared.message.BadFrame.{BadFrame}
use Rattle.walter_base.specs.declared.message.Request.{Request}
use Rattle.walter_fields.specs.Spellings.{number_spelled, block_spelled}
use Rattle.walter_request.specs.Requests.{Spells, IsBadFrame}

-- what a frame calls for
abbrev pub Call : Type 0
Call = Result Request BadFrame

abbrev pub frame : List ℕ → List ℕ
frame body = block_spelled body

-- what a body calls for: the request that it spells, or the place of what is wrong with it
abbrev pub CallsFor : List ℕ → Call → Type 0
CallsFor body (Ok request) = Spells body request
CallsFor body (Err bad) = IsBadFrame body bad.at

-- four bytes that spell a length that no frame has
pub record IsTooLong (bytes : List ℕ) : Type 0 where
  pub count : ℕ
  pub above : 65536 < count
  pub fits : count < 2 ^ 32
  pub is : bytes ≡ number_spelled 4 count

-- with some bytes more they are a frame
pub record IsFrontOfFrame (bytes : List ℕ) : Type 0 where
  pub more : List ℕ
  pub body : List ℕ
  pub some : more ≢ []
  pub short : length body ≤ 65536
  pub is : bytes ++ more ≡ frame body

-- a frame is begun and isn't whole
pub record IsBegun (bytes : List ℕ) : Type 0 where
  pub some : bytes ≢ []
  pub wanting : (length bytes < 4) ⊎ IsFrontOfFrame bytes

-- what is to come ends inside a frame, where that is told
abbrev pub EndsInFrame : Option (List ℕ) → Type 0
EndsInFrame None = Unit {0}
EndsInFrame (Some bytes) = IsBegun bytes
