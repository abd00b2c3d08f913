use Rattle.std.proofs.Common.{◌≡◌}
use Rattle.walter_cell.specs.Pumps.{counts_in}
use Rattle.walter_link.specs.Pumps.{KeepsPump, take_below}
use Rattle.walter_cell.proofs.cell.Cell.take_arrived.Given as goal

-- of the first senders all is taken
abbrev pub invariant-loop-from : goal.invariant-loop-from
invariant-loop-from g l = record {
  taken : l.pump ≡ take_below l.self.node.site (counts_in l.self.ins) l.from l.initial.pump;
  keeps : KeepsPump (counts_in l.self.ins) l.initial.pump l.pump;
}
