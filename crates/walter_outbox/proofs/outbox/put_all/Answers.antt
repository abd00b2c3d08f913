use Rattle.std.proofs.Common.{◌≡◌, ◌+◌, ◌++◌, ◌∷◌, [], List, length, ap, sym, ◌∙◌, subst, arith}
use Rattle.std.specs.List.{remove}
use Rattle.std.specs.Vec.Iter.{into_iter_items}
use Rattle.std.proofs.lemmas.List.{length-append, append_assoc}
use Rattle.walter_lane.specs.Lanes.{Sending}
use Rattle.walter_packet.specs.Framed.{FramedBytes}
use Rattle.walter_rules.specs.Sending.{Send}
use Rattle.walter_outbox.specs.Lanes.{carried_by, met_to, IsPutWhereFree, HavePutMore}
use Rattle.walter_outbox.proofs.Putting.{IsPutting, HavePutFront, putting_none, front_none, putting_put, putting_dropped, front_put, putting_all, putting_more, next_is, count_within, framed_is, yielded_more, more_within, all_yielded}
use Rattle.walter_outbox.proofs.outbox.put_all.Goals as goal

pub loop-framed-init : goal.loop-framed-init
loop-framed-init c = record {
  can_next = tt;
  finite = tt;
  yielded = c.into_iter-framed-iterator.ensures.into_iter_gives.0;
  few = omega arith;
  front = [];
  at = putting_none c.args.outs.now c.args.sends c.into_vec-sends.result.items c.into_vec-sends.ensures;
  posts = λ sites are. front_none sites c.args.stamp c.args.outs.now;
}

pub index-requires : goal.index-requires
index-requires c =
    let is = c.loop-framed.invariant in
    let within = more_within c.args.sends c.args.frames.items c.loop-framed.yielded _ c.in-Some.framed c.requires
    (yielded_more c.args.frames.items c.loop-framed.yielded _ _ c.in-Some.framed is.yielded c.in-Some.ensures.steps.0) in
    let less = count_within c.args.outs.now c.loop-framed.outs c.args.sends c.loop-framed.sends.items is.front c.loop-framed.count (length c.loop-framed.yielded) c.loop-framed.dropped is.at within in
    omega (arith, less, c.loop-framed.sends.ok)

pub loop-framed-preserved-then-put : goal.loop-framed-preserved-then-put
loop-framed-preserved-then-put c =
    let is = c.loop-framed.invariant in
    let outs = c.args.outs.now in
    let sends = c.loop-framed.sends.items in
    let done = length c.loop-framed.yielded in
    let s : Send = c.index.result.now in
    let frame = c.in-Some.framed in
    let parts = yielded_more c.args.frames.items c.loop-framed.yielded _ _ frame is.yielded c.in-Some.ensures.steps.0 in
    let within = more_within c.args.sends c.args.frames.items c.loop-framed.yielded _ frame c.requires parts in
    let next = next_is outs c.loop-framed.outs c.put.new.outs c.args.sends sends is.front c.loop-framed.count done c.loop-framed.dropped s is.at within c.index.ensures in
    let more = length-append c.loop-framed.yielded (frame ∷ []) in
    record {
      can_next = tt;
      finite = tt;
      yielded = append_assoc c.loop-framed.yielded (frame ∷ []) _ ∙ parts;
      few = let f = is.few in omega (arith, more, f);
      front = is.front ++ s ∷ [];
      at = subst (λ n. IsPutting outs c.put.new.outs c.args.sends sends (is.front ++ s ∷ []) (c.loop-framed.count + 1) n c.loop-framed.dropped) (sym more)
          (putting_put outs c.loop-framed.outs c.put.new.outs c.args.sends sends is.front c.loop-framed.count done c.loop-framed.dropped s is.at within next _ c.if-put.ensures);
      posts = λ sites are.
          front_put outs c.loop-framed.outs c.put.new.outs c.args.sends sends is.front c.loop-framed.count done c.loop-framed.dropped s is.at within next sites c.args.stamp
          (record { stamp = c.args.stamp; framed = frame })
          (ap (λ (f : FramedBytes). record { stamp = c.args.stamp; framed = f }) (framed_is sites c.args.sends c.args.frames.items c.loop-framed.yielded _ frame s are parts next))
          c.if-put.ensures (is.posts sites are);
    }

pub overflow_add-dropped : goal.overflow_add-dropped
overflow_add-dropped c =
    let is = c.loop-framed.invariant in
    let parts = yielded_more c.args.frames.items c.loop-framed.yielded _ _ c.in-Some.framed is.yielded c.in-Some.ensures.steps.0 in
    let within = more_within c.args.sends c.args.frames.items c.loop-framed.yielded _ c.in-Some.framed c.requires parts in
    let f = is.few in
    let same = c.requires in
    omega (arith, f, within, same, c.args.frames.ok, c.args.frames.small)

pub loop-framed-preserved : goal.loop-framed-preserved
loop-framed-preserved c =
    let is = c.loop-framed.invariant in
    let outs = c.args.outs.now in
    let sends = c.loop-framed.sends.items in
    let count = c.loop-framed.count in
    let done = length c.loop-framed.yielded in
    let s : Send = c.index.result.now in
    let frame = c.in-Some.framed in
    let parts = yielded_more c.args.frames.items c.loop-framed.yielded _ _ frame is.yielded c.in-Some.ensures.steps.0 in
    let within = more_within c.args.sends c.args.frames.items c.loop-framed.yielded _ frame c.requires parts in
    let next = next_is outs c.loop-framed.outs c.put.new.outs c.args.sends sends is.front count done c.loop-framed.dropped s is.at within c.index.ensures in
    let more = length-append c.loop-framed.yielded (frame ∷ []) in
    let still : c.put.new.outs ≡ c.loop-framed.outs = c.if-put.ensures.0 in
    let at : IsPutting outs c.loop-framed.outs c.args.sends (remove sends count) is.front count (done + 1) (c.loop-framed.dropped + 1) =
    putting_dropped outs c.loop-framed.outs c.put.new.outs c.args.sends sends is.front count done c.loop-framed.dropped s is.at within next c.if-put.ensures.1 in
    record {
      can_next = tt;
      finite = tt;
      yielded = append_assoc c.loop-framed.yielded (frame ∷ []) _ ∙ parts;
      few = let f = is.few in omega (arith, more, f);
      front = is.front;
      at = subst (λ (l : List Sending). IsPutting outs l c.args.sends c.remove.new.self.items is.front count (length (c.loop-framed.yielded ++ frame ∷ [])) (c.loop-framed.dropped + 1)) (sym still)
          (subst (λ (l : List Send). IsPutting outs c.loop-framed.outs c.args.sends l is.front count (length (c.loop-framed.yielded ++ frame ∷ [])) (c.loop-framed.dropped + 1)) (sym c.remove.ensures.items)
          (subst (λ n. IsPutting outs c.loop-framed.outs c.args.sends (remove sends count) is.front count n (c.loop-framed.dropped + 1)) (sym more) at));
      posts = λ sites are. subst (λ (l : List Sending). HavePutFront sites c.args.stamp outs l is.front) (sym still) (is.posts sites are);
    }

pub returns-clause-out : goal.returns-clause-out
returns-clause-out c =
    let is = c.loop-framed.invariant in
    let none : length (into_iter_items c.loop-framed.framed-iterator) ≡ 0 =
    omega (arith, c.in-None.ensures.steps.0, c.loop-framed.framed-iterator.rest.ok) in
    let all = all_yielded c.args.sends c.args.frames.items c.loop-framed.yielded _ c.requires is.yielded none in
    subst (λ (l : List Send). IsPutWhereFree (met_to c.args.outs.now) (carried_by c.args.outs.now) c.args.sends l c.loop-framed.dropped) (sym c.from.ensures)
    (putting_all c.args.outs.now c.loop-framed.outs c.args.sends c.loop-framed.sends.items is.front c.loop-framed.count
    (length c.loop-framed.yielded) c.loop-framed.dropped is.at all)

pub returns-clause-lanes : goal.returns-clause-lanes
returns-clause-lanes c = λ sites are.
    let is = c.loop-framed.invariant in
    let none : length (into_iter_items c.loop-framed.framed-iterator) ≡ 0 =
    omega (arith, c.in-None.ensures.steps.0, c.loop-framed.framed-iterator.rest.ok) in
    let all = all_yielded c.args.sends c.args.frames.items c.loop-framed.yielded _ c.requires is.yielded none in
    subst (λ (l : List Send). HavePutMore sites c.args.stamp c.args.outs.now c.loop-framed.outs l) (sym c.from.ensures)
    (putting_more c.args.outs.now c.loop-framed.outs c.args.sends c.loop-framed.sends.items is.front c.loop-framed.count
    (length c.loop-framed.yielded) c.loop-framed.dropped is.at all sites c.args.stamp (is.posts sites are))
