use Rattle.std.proofs.Common.{◌≡◌, ◌++◌}
use Rattle.walter_rules.specs.Knowledge.{from_to}
use Rattle.walter_tables.specs.Packets.{to_one, commits_of}
use Rattle.walter_tables.specs.Sites.{values_of}
use Rattle.walter_tables.proofs.tables.Tables.put_between.Given as goal

-- those up to the number are put
abbrev pub invariant-loop-before : goal.invariant-loop-before
invariant-loop-before l =
    l.sends.items ≡ l.initial.sends.items ++ to_one l.fn.to (commits_of (values_of l.self) (from_to l.fn.first l.before))
