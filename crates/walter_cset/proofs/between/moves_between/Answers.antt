use Rattle.std.proofs.Common.{◌∙◌, ap, arith}
use Rattle.std.proofs.lemmas.Int.{ints}
use Rattle.std.proofs.lemmas.List.{take_all}
use Rattle.walter_history.specs.Steps.{told}
use Rattle.walter_cset.specs.Between.{moved}
use Rattle.walter_cset.proofs.Moving.{moved_more, moved_room}
use Rattle.walter_cset.proofs.between.moves_between.Goals as goal

pub take_move-requires : goal.take_move-requires
take_move-requires c = λ id.
    let room = moved_room c.args.from.now c.args.to.now c.args.oid id c.args.steps.now c.loop-kept.kept-index c.requires c.loop-kept-test.true in
    let is = c.loop-kept.invariant id in
    (omega (arith, ints, room.0, is), omega (arith, ints, room.1, is))

pub loop-kept-preserved : goal.loop-kept-preserved
loop-kept-preserved c = λ id.
    let more = moved_more c.args.from.now c.args.to.now c.args.oid id c.args.steps.now c.loop-kept.kept-index c.kept-item.result c.loop-kept-test.true c.kept-item.is in
    let taken = c.in_ok-take_move.ensures id in
    let before = c.loop-kept.invariant id in
    omega (arith, ints, more, taken, before)

pub returns : goal.returns
returns c = λ id. c.loop-kept.invariant id ∙ ap (λ ss. moved c.args.from.now c.args.to.now c.args.oid id (told ss)) (take_all c.loop-kept.kept-index c.args.steps.now c.loop-kept-test.false)
