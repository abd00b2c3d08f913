use Rattle.std.proofs.Common.{◌≡◌, vec_len}
use Rattle.walter_cluster.specs.Lanes.{AddsRow, columns_in}
use Rattle.walter_cluster.proofs.connecting.add_row.Given as goal

abbrev pub invariant-loop-to : goal.invariant-loop-to
invariant-loop-to l = record {
  sites : l.sites ≡ vec_len l.initial.columns;
  adds : AddsRow (columns_in l.initial.columns.items) (columns_in l.columns.items) l.row.items l.to;
}
