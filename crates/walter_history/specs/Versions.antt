-- The versions of an object's writes, as contracts see them.
use Rattle.std.specs.Prelude.{ℕ, List}
use Rattle.walter_base.specs.declared.names.Version.{Version}

-- the versions, and how many more can be pushed without memory
pub record Versioned : Type 0 where
  pub versions : List Version
  pub room : ℕ
