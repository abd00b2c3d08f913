use Rattle.std.proofs.Common.{sym, ◌∙◌, rules}
use Rattle.rtrb.specs.Ring.{known_items}
use Rattle.walter_lane.proofs.Steps.{next_item, one_more}
use Rattle.walter_lane.proofs.inbound.take_known.Goals as goal

pub loop-preserved : goal.loop-preserved
loop-preserved c =
    let at = c.loop.invariant in
    let pops = c.pop_known.ensures in
    let all = known_items c.args.consumer.now in
    let x = c.pop_known.result in
    let step = next_item all (known_items c.pop_known.new.self) x c.loop.counter (sym at.2 ∙ pops.received.1) in (
      search rules,
      one_more _ _ _ _ x _ at.1 pops.received.0 step.0,
      sym step.1,
      one_more _ _ _ _ x _ at.3 c.push_reserved.ensures.items step.0,
      c.push_reserved.ensures.capacity ∙ at.4,
    )
