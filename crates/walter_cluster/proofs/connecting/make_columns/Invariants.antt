use Rattle.std.proofs.Common.{◌≡◌, ℕ, [], vec_len}
use Rattle.walter_cluster.specs.Lanes.{columns_in, column_of}
use Rattle.walter_cluster.proofs.connecting.make_columns.Given as goal

abbrev pub invariant-loop : goal.invariant-loop
invariant-loop l = record {
  sites : vec_len l.columns ≡ l.counter;
  empty : (to : ℕ) → column_of (columns_in l.columns.items) to ≡ [];
}
