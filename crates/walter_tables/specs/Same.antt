-- Transactions that are alike.
use Rattle.std.specs.Prelude.{◌≡◌}
use Rattle.walter_base.specs.declared.transaction.Tx.{Tx}
use Rattle.walter_base.specs.Vectors.{Covers}

-- they have one name, one slow number, the same updates, and snapshots that see the same
pub record IsSame (tx other : Tx) : Type 0 where
  pub name : tx.tid ≡ other.tid
  pub number : tx.slow ≡ other.slow
  pub as_much : Covers tx.start other.start
  pub no_more : Covers other.start tx.start
  pub updates : tx.updates ≡ other.updates
