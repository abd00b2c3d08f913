use Rattle.walter_rows.proofs.Committed.{own_counted, received_counted}
use Rattle.walter_rows.proofs.committing.count_commit.Goals as goal

pub returns : goal.returns
returns c = record {
  own = λ before after log h is alike seen were. own_counted before after h c.args.updates.now is c.args.totals.now c.take_all.new.totals c.take_all.ensures log alike seen were;
  received = λ before after front back h is alike_front alike_back unseen seen were.
      received_counted before after h c.args.updates.now is c.args.totals.now c.take_all.new.totals c.take_all.ensures front back alike_front alike_back unseen seen were;
}
