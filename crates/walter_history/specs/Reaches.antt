-- A vector that sees some versions, if one is known.
use Rattle.std.specs.Prelude.{◌≡◌, ℕ, true, List, Option, IfSome}
use Rattle.walter_base.specs.declared.names.Version.{Version}
use Rattle.walter_base.specs.Conflicts.{sees_version}

-- the vector, if there is one, sees the version
abbrev pub Reaches : Option (List ℕ) → Version → Type 0
Reaches vector version = IfSome vector (λ v. sees_version v version ≡ true)
