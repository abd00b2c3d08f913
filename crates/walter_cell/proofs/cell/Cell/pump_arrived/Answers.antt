use Rattle.std.proofs.Common.{rules}
use Rattle.walter_cell.proofs.Works.{no_front, there_taken}
use Rattle.walter_cell.proofs.cell.Cell.pump_arrived.Goals as goal

pub advance_least-requires : goal.advance_least-requires
advance_least-requires g c = record { none = no_front c.take_arrived.new.pump.waiting (search rules) }

pub hand-requires-clause-there : goal.hand-requires-clause-there
hand-requires-clause-there g c =
    let first = c.in-Some.first in
    there_taken c.args.self.now.ins c.take_arrived.new.pump first (rw c.in-Some.is at c.first.ensures.taken)
    (c.take_arrived.ensures.pump.taken first.from.0 (c.requires.taken first.from.0))
