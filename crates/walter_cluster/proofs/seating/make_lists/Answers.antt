use Rattle.std.proofs.Common.{List, Option, Vec, Global, length, ap, arith}
use Rattle.walter_cluster.specs.Seats.{lists_in}
use Rattle.walter_cluster.proofs.Seated.{empty_begins, empty_more, places_more}
use Rattle.walter_cluster.proofs.seating.make_lists.Goals as goal

pub loop-init : goal.loop-init
loop-init g c = record {
  places = record {
    lists_long = ap (λ (us : List (Vec (Option g.row.C.Denot) Global)). length (lists_in us)) c.new-lists.ensures.items;
    list_long = λ i lt. absurd (omega (arith, lt));
  };
  empty = empty_begins c.new-lists.result.items c.new-lists.ensures.items;
}

pub loop-preserved : goal.loop-preserved
loop-preserved g c =
    let vs = c.loop.lists.items in
    let us = c.push.new.self.items in
    let v = c.in_ok-make_list.field-0 in
    record {
      places = places_more vs us v c.in_ok-push.ensures.items c.args.clients c.in_ok-make_list.ensures c.loop.counter c.loop.invariant.places;
      empty = empty_more vs us v c.in_ok-push.ensures.items c.args.clients c.in_ok-make_list.ensures c.loop.invariant.empty;
    }
