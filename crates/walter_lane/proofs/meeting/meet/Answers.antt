use Rattle.std.proofs.Common.{length, sym, ◌∙◌, ap, arith}
use Rattle.walter_lane.proofs.Steps.{all_taken}
use Rattle.walter_lane.proofs.meeting.meet.Goals as goal

pub invariant_of-outbound-2 : goal.invariant_of-outbound-2
invariant_of-outbound-2 c =
    let first = c.slots_beside-count.ensures in
    let second = c.slots_beside-outbound-inside.ensures in
    let old = c.outbound.invariant in
    let taken = all_taken _ _ _ _ _ c.take_known.ensures.received first.value first.fifo in
    let whole = ap length taken in
    let free = second.all_free in
    let sent_same = ap length second.looked.1 in
    let sent_first = ap length first.producer.1 in
    let back = ap length second.consumer.1 in
    let room = second.looked.0.1 ∙ first.producer.0.1 ∙ old.2 in
    let count = old.0 ∙ sym (sent_same ∙ sent_first) in
    let known = second.value in (
      count,
      omega arith,
      room,
      omega arith,
      old.4,
    )
