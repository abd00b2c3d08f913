use Rattle.std.proofs.Common.{arith}
use Rattle.std.proofs.lemmas.Int.{ints}
use Rattle.walter_cset.proofs.Steps.{small_step, count_next}
use Rattle.walter_overlay.proofs.Room.{room_left}
use Rattle.walter_overlay.proofs.counting.count.Goals as goal

pub overflow_add-count : goal.overflow_add-count
overflow_add-count c =
    let room = room_left c.args.base c.args.oid c.args.id c.args.updates.now c.loop-update.update-index c.requires.modest c.requires.few c.loop-update-test.true in
    let step = small_step c.args.oid c.args.id c.update-item.result in
    omega (arith, ints, room.0, room.1, step.0, step.1, c.loop-update.invariant, c.step-count.ensures)

pub loop-update-preserved : goal.loop-update-preserved
loop-update-preserved c =
    let room = room_left c.args.base c.args.oid c.args.id c.args.updates.now c.loop-update.update-index c.requires.modest c.requires.few c.loop-update-test.true in
    let step = small_step c.args.oid c.args.id c.update-item.result in
    let more = count_next c.args.oid c.args.id c.args.updates.now c.loop-update.update-index c.update-item.result c.loop-update-test.true c.update-item.is in
    omega (arith, ints, more, room.0, room.1, step.0, step.1, c.loop-update.invariant, c.step-count.ensures)
