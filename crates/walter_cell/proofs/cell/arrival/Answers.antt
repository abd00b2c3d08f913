use Rattle.std.proofs.Common.{◌<◌, length, ap, sym, ◌∙◌, subst, Bor}
use Rattle.walter_lane.specs.declared.posted.Posted.{Posted}
use Rattle.walter_outbox.specs.Lanes.{arrived_from}
use Rattle.walter_cell.proofs.Meeting.{was_here, arrival_read}
use Rattle.walter_cell.proofs.cell.arrival.Goals as goal

pub returns : goal.returns
returns c =
    let ins = c.args.ins.now in
    let inbound = c.index-ins-from.result in
    let within : c.from.result < length ins = subst (λ n. n < length ins) (sym c.from.ensures) c.requires in
    let here = ap (λ n. arrived_from ins n) (sym c.from.ensures) ∙ was_here ins c.from.result inbound inbound c.index-ins-from.is within in
    sym (arrival_read (λ (b : Bor Posted). b.now) c.arrived.result ins c.args.from c.args.number inbound.arrived here
    c.arrived.ensures.none c.arrived.ensures.some)
