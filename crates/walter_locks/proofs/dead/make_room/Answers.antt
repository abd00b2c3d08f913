use Rattle.std.proofs.Common.{◌<◌, ◌∙◌, length, refl, below_more, arith}
use Rattle.std.proofs.lemmas.Option.{slice_get_read}
use Rattle.walter_locks.proofs.Marked.{sites_kept, dead_kept, room_grown, room_now}
use Rattle.walter_locks.proofs.dead.make_room.Goals as goal

pub loop-place-preserved : goal.loop-place-preserved
loop-place-preserved c =
    let dead = c.loop-place.dead.items in
    let place = c.loop-place.place in
    let was = c.index_mut-intervals.result.now in
    let now = c.make_room.new.self in
    let before = c.loop-place.invariant in
    let within : place < length dead = omega (arith, before.sites, c.len-place-end.ensures, c.args.dead.now.ok.0, c.loop-place-test.true) in
    let here = slice_get_read dead (length dead) place was refl within c.index_mut-intervals.ensures.value in
    let grown = room_grown dead place was now here c.make_room.ensures.more in
    record {
      sites = sites_kept dead place was now here ∙ before.sites;
      enough = below_more _ place (λ k lt. omega (arith, grown k, before.enough k lt)) (omega (arith, room_now dead place was now here, c.in_ok-make_room.ensures.enough));
      dead = λ j n. dead_kept dead place was now here c.make_room.ensures.intervals j n ∙ before.dead j n;
      more = λ k. omega (arith, grown k, before.more k);
    }

pub returns-in_err-make_room-clause-dead : goal.returns-in_err-make_room-clause-dead
returns-in_err-make_room-clause-dead c j n =
    let dead = c.loop-place.dead.items in
    let place = c.loop-place.place in
    let was = c.index_mut-intervals.result.now in
    let before = c.loop-place.invariant in
    let within : place < length dead = omega (arith, before.sites, c.len-place-end.ensures, c.args.dead.now.ok.0, c.loop-place-test.true) in
    let here = slice_get_read dead (length dead) place was refl within c.index_mut-intervals.ensures.value in
    dead_kept dead place was c.make_room.new.self here c.make_room.ensures.intervals j n ∙ before.dead j n

pub returns-in_err-make_room-clause-more : goal.returns-in_err-make_room-clause-more
returns-in_err-make_room-clause-more c k =
    let dead = c.loop-place.dead.items in
    let place = c.loop-place.place in
    let was = c.index_mut-intervals.result.now in
    let before = c.loop-place.invariant in
    let within : place < length dead = omega (arith, before.sites, c.len-place-end.ensures, c.args.dead.now.ok.0, c.loop-place-test.true) in
    let here = slice_get_read dead (length dead) place was refl within c.index_mut-intervals.ensures.value in
    omega (arith, room_grown dead place was c.make_room.new.self here c.make_room.ensures.more k, before.more k)
