use Rattle.std.proofs.Common.{sym, ◌∙◌, ap, ◌++◌, take}
use Rattle.rtrb.specs.Ring.{known_items}
use Rattle.walter_lane.proofs.inbound.Inbound.poll.Goals as goal

pub returns-clause-more : goal.returns-clause-more
returns-clause-more c =
    let taken = take c.min-count.result (known_items c.slots-waiting.new.self) in
    (taken, ap (λ r. r.arrived ++ taken) (sym c.self.view_is) ∙ ap (λ l. l ++ taken) (sym c.in_ok-reserve.ensures.items) ∙ sym c.take_known.ensures.arrived)
