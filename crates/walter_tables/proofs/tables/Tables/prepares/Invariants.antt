use Rattle.std.proofs.Common.{◌≡◌, ◌∷◌, [], take}
use Rattle.walter_rules.specs.Knowledge.{fresh}
use Rattle.walter_rules.specs.Sending.{to_each, prepare_of}
use Rattle.walter_tables.proofs.tables.Tables.prepares.Given as goal

-- the sites so far are asked
abbrev pub invariant-loop-to : goal.invariant-loop-to
invariant-loop-to l =
    l.sends.items ≡ to_each (take l.to-index l.asked) (λ k. prepare_of l.self.catalog fresh l.fn.slow l.tx k ∷ [])
