-- How a text comes to a sink, piece by piece.
use Rattle.std.specs.Prelude.{◌≡◌, ◌<◌, ℕ, List, ◌++◌, Option, Result, Ok, Err}
use Rattle.walter_stream.specs.Streams.{Appends}
use Rattle.walter_stream.specs.declared.source.Failed.{Failed}

-- a front of these bytes was put behind what the sink held, and this is left of them
pub record Sends (holds holds' : Option (List ℕ)) (bytes left : List ℕ) : Type 0 where
  pub front : List ℕ
  pub is : bytes ≡ front ++ left
  pub sent : Appends holds holds' front

-- the text was put behind the bytes that waited: of both together a front is in the sink, and the rest waits
pub record HasPut {K : Type 0} (holds : K → Option (List ℕ)) (faults : K → ℕ) (old new : K)
    (waiting waiting' text : List ℕ) : Type 0 where
  pub sends : Sends (holds old) (holds new) (waiting ++ text) waiting'
  pub faultless : faults new ≡ faults old

-- the sink failed behind a front of what waited and of the text
pub record IsCut {K : Type 0} (holds : K → Option (List ℕ)) (faults : K → ℕ) (old new : K)
    (waiting text : List ℕ) : Type 0 where
  pub left : List ℕ
  pub sends : Sends (holds old) (holds new) (waiting ++ text) left
  pub failed : faults old < faults new

-- what putting a text behind the bytes that waited comes to
abbrev pub Puts : {K : Type 0} → (holds : K → Option (List ℕ)) → (faults : K → ℕ) → (old new : K)
    → (waiting waiting' text : List ℕ) → Result (Unit {0}) Failed → Type 0
Puts holds faults old new waiting waiting' text (Ok _) = HasPut holds faults old new waiting waiting' text
Puts holds faults old new waiting waiting' text (Err _) = IsCut holds faults old new waiting text
