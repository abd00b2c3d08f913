use Rattle.std.proofs.Common.{◌<◌, length, arith, ◌∙◌}
use Rattle.std.proofs.lemmas.List.{length-set}
use Rattle.walter_outbox.specs.Lanes.{arrived_from}
use Rattle.walter_cell.proofs.Meeting.{grows_met, in_rings_met, prefix_on}
use Rattle.walter_cell.proofs.polling.poll_all.Goals as goal

pub returns-in_err-poll-clause-more : goal.returns-in_err-poll-clause-more
returns-in_err-poll-clause-more c =
    let ins = c.loop-from.ins.items in
    let within : c.loop-from.from < length ins = omega (arith, c.loop-from-test.true, c.len-from-end.ensures, c.loop-from.invariant.long) in
    λ from. prefix_on (arrived_from c.args.ins.now.items from) (arrived_from ins from) _ (c.loop-from.invariant.more from)
    (grows_met ins c.loop-from.from c.index_mut.result.now c.poll.new.self c.index_mut.ensures.value within c.poll.ensures.more from)

pub loop-from-preserved : goal.loop-from-preserved
loop-from-preserved c =
    let ins = c.loop-from.ins.items in
    let within : c.loop-from.from < length ins = omega (arith, c.loop-from-test.true, c.len-from-end.ensures, c.loop-from.invariant.long) in
    let at = c.index_mut.ensures.value in
    record {
      long = length-set ins c.loop-from.from c.poll.new.self ∙ c.loop-from.invariant.long;
      rings = in_rings_met ins c.loop-from.from c.index_mut.result.now c.poll.new.self at c.poll.ensures.ring ∙ c.loop-from.invariant.rings;
      more = λ from. prefix_on (arrived_from c.args.ins.now.items from) (arrived_from ins from) _ (c.loop-from.invariant.more from)
          (grows_met ins c.loop-from.from c.index_mut.result.now c.poll.new.self at within c.poll.ensures.more from);
    }
