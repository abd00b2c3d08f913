use Rattle.std.proofs.Common.{◌≡◌}
use Rattle.walter_rules.specs.Sending.{to_each}
use Rattle.walter_rules.specs.Deliveries.{releases_to}
use Rattle.walter_tables.proofs.Said.{peers_below}
use Rattle.walter_tables.proofs.tables.Tables.releases.Given as goal

-- the sites so far are served
abbrev pub invariant-loop-k : goal.invariant-loop-k
invariant-loop-k l = l.sends.items ≡ to_each (peers_below l.k l.self.site) (releases_to l.fn.slow l.asked)
