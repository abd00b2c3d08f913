-- The number of a transaction, told of its name.
use Rattle.std.specs.Prelude.{ℕ, Option, Some, None, if◌then◌else◌}
use Rattle.walter_base.specs.declared.names.Tid.{Tid}
use Rattle.walter_base.specs.Names.{same_tid}

-- what a transaction of this name and number tells of another name
abbrev pub named_seq : Tid → ℕ → Tid → Option ℕ
named_seq tid seq other = if same_tid other tid then Some seq else None
