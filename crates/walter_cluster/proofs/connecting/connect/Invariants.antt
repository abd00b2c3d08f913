use Rattle.walter_cluster.specs.Lanes.{AreJoined, rows_in, columns_in}
use Rattle.walter_cluster.proofs.connecting.connect.Given as goal

abbrev pub invariant-loop : goal.invariant-loop
invariant-loop l = AreJoined l.counter l.sites (rows_in l.rows.items) (columns_in l.columns.items)
