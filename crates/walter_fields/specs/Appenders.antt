-- What an appender holds.
use Rattle.std.specs.Prelude.{ℕ, List}

-- the bytes that were written, and for how many more there is room
pub record BytesWithRoom : Type 0 where
  pub bytes : List ℕ
  pub room : ℕ
