use Rattle.std.proofs.Common.{◌∙◌, ap, arith}
use Rattle.std.specs.Prelude.{◌+ℤ◌}
use Rattle.std.proofs.lemmas.Int.{ints}
use Rattle.std.proofs.lemmas.List.{take_all}
use Rattle.walter_base.specs.Values.{count_of}
use Rattle.walter_cset.specs.Tallies.{number_at}
use Rattle.walter_cset.proofs.Steps.{count_next}
use Rattle.walter_overlay.proofs.Room.{room_left}
use Rattle.walter_overlay.proofs.counting.take_own.Goals as goal

pub take_in-requires : goal.take_in-requires
take_in-requires c = λ id.
    let within = c.requires.moves id in
    let room = room_left (number_at c.args.moves.now id) c.args.oid id c.args.updates.now c.loop-update.update-index
    (omega (arith, ints, within.0), omega (arith, ints, within.1)) c.requires.few c.loop-update-test.true in
    let is = c.loop-update.invariant id in
    (omega (arith, ints, room.0, is), omega (arith, ints, room.1, is))

pub loop-update-preserved : goal.loop-update-preserved
loop-update-preserved c = λ id.
    let more = count_next c.args.oid id c.args.updates.now c.loop-update.update-index c.update-item.result c.loop-update-test.true c.update-item.is in
    let taken = c.in_ok-take_in.ensures id in
    let before = c.loop-update.invariant id in
    omega (arith, ints, more, taken, before)

pub returns : goal.returns
returns c = λ id.
    c.loop-update.invariant id
    ∙ ap (λ us. number_at c.args.moves.now id +ℤ count_of c.args.oid id us) (take_all c.loop-update.update-index c.args.updates.now c.loop-update-test.false)
