use Rattle.std.proofs.Common.{◌≡◌}
use Rattle.walter_rules.specs.Sending.{to_each}
use Rattle.walter_tables.specs.Packets.{said_packets}
use Rattle.walter_tables.specs.Sites.{values_of}
use Rattle.walter_tables.proofs.Said.{peers_below}
use Rattle.walter_tables.proofs.tables.Tables.said_again.Given as goal

-- the sites so far are served
abbrev pub invariant-loop-k : goal.invariant-loop-k
invariant-loop-k l = l.sends.items ≡ to_each (peers_below l.k l.self.site) (said_packets (values_of l.self) l.durable)
