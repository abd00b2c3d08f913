-- What the input of a connection holds (docs/FORMATS.md, "Frames of a client").
use Rattle.std.specs.Prelude.{◌≡◌, ◌-◌, ◌≤◌, ℕ, List, ◌++◌, take, drop, Option, option_map}
use Rattle.walter_conn.specs.declared.input.FrameInput.{FrameInput}
use Rattle.walter_conn.specs.Frames.{frame}

-- the bytes of a frame that were taken from the source
abbrev pub held_by : {S : Type 0} → FrameInput S → List ℕ
held_by input = take input.held input.buffer.items

-- what is to come, where the source tells it: what is held, and what the source has left
abbrev pub unread_by : {S : Type 0} → (S → Option (List ℕ)) → FrameInput S → Option (List ℕ)
unread_by left input = option_map (λ rest. held_by input ++ rest) (left input.source)

-- what is held behind the length
abbrev pub body_of : {S : Type 0} → FrameInput S → List ℕ
body_of input = take (input.held - 4) (drop 4 input.buffer.items)

-- a frame is held, and nothing more
pub record HoldsFrame {S : Type 0} (input : FrameInput S) : Type 0 where
  pub begun : 4 ≤ input.held
  pub within : input.held ≤ 65540
  pub is : held_by input ≡ frame (body_of input)
