use Rattle.std.proofs.Common.{◌≡◌, ◌++◌, take}
use Rattle.std.specs.Prelude.{flat_map}
use Rattle.walter_slow.specs.Tables.{commit_of}
use Rattle.walter_tables.specs.Packets.{to_one, prepare_kept}
use Rattle.walter_tables.proofs.tables.Tables.put_prepares.Given as goal

-- those of the busy numbers so far are put
abbrev pub invariant-loop-slow : goal.invariant-loop-slow
invariant-loop-slow l =
    l.sends.items ≡ l.initial.sends.items
    ++ to_one l.fn.to (flat_map (λ n. prepare_kept l.self.catalog l.fn.to n (commit_of l.self.slow n)) (take l.slow-index l.self.slow.busy))
