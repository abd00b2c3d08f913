-- Why bytes were not read to their end.
use Rattle.std.specs.Prelude.{◌≡◌, ◌<◌, ℕ, Result, Ok, Err}
use Rattle.walter_stream.specs.declared.reading.ReadError.{ReadError}
use Rattle.walter_stream.specs.declared.reading.ReadError.TheVariants.{TooLong, Failed, NoMemory}

-- the count of faults rises at `Failed`, and stays at any other answer
abbrev pub CountsFaults : {X : Type 0} → Result X ReadError → (old new : ℕ) → Type 0
CountsFaults (Ok _) old new = new ≡ old
CountsFaults (Err TooLong) old new = new ≡ old
CountsFaults (Err Failed) old new = old < new
CountsFaults (Err NoMemory) old new = new ≡ old
