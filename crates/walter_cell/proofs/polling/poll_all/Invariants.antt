use Rattle.std.proofs.Common.{◌≡◌, ℕ, length}
use mathlib.Core.List.{IsPrefix}
use Rattle.walter_outbox.specs.Lanes.{arrived_from, in_rings}
use Rattle.walter_cell.proofs.polling.poll_all.Given as goal

abbrev pub invariant-loop-from : goal.invariant-loop-from
invariant-loop-from l = record {
  long : length l.ins.items ≡ length l.initial.ins.items;
  rings : in_rings l.ins.items ≡ in_rings l.initial.ins.items;
  more : (from : ℕ) → IsPrefix (arrived_from l.initial.ins.items from) (arrived_from l.ins.items from);
}
