-- What becomes of a reply that is not written whole (docs/FORMATS.md, "Frames of a client").
use Rattle.std.specs.Prelude.{◌≡◌, ◌≢◌, ◌<◌, ℕ, List, Option}
use Rattle.walter_stream.specs.Streams.{AppendsFront}
use Rattle.walter_conn.specs.declared.state.State.{State}
use Rattle.walter_conn.specs.declared.state.State.TheVariants as state

-- the connection was broken before, and the sink is as it was; or the sink failed behind a front of the bytes
pub data IsLost {K : Type 0} (holds : K → Option (List ℕ)) (faults : K → ℕ) (old new : K) (bytes : List ℕ) (was : State) : Type 0 where
  before : was ≡ state.Broken → new ≡ old → IsLost holds faults old new bytes was
  fault : was ≢ state.Broken → AppendsFront (holds old) (holds new) bytes → faults old < faults new → IsLost holds faults old new bytes was
