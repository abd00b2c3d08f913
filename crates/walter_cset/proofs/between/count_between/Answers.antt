use Rattle.std.proofs.Common.{ap, arith}
use Rattle.std.proofs.lemmas.Int.{ints}
use Rattle.std.proofs.lemmas.List.{take_all}
use Rattle.walter_history.specs.Steps.{told}
use Rattle.walter_cset.specs.Between.{moved}
use Rattle.walter_cset.proofs.Moving.{moved_more, moved_behind, count_stands}
use Rattle.walter_cset.proofs.between.count_between.Goals as goal

pub loop-kept-preserved : goal.loop-kept-preserved
loop-kept-preserved c =
    let more = moved_more c.args.from.now c.args.to.now c.args.oid c.args.id c.args.steps.now c.loop-kept.kept-index c.kept-item.result c.loop-kept-test.true c.kept-item.is in
    let one = c.row_moves-number.ensures in
    let before = c.loop-kept.invariant in
    record {
      moved = omega (arith, ints, more, one.moved, one.low, one.high, before.moved, before.low, before.high, c.requires.0, c.requires.1, c.loop-kept-test.true, c.loop-kept.number-is, c.ranges.count);
      low = omega (arith, ints, one.low, one.high, before.low, before.high, c.requires.0, c.requires.1, c.loop-kept-test.true, c.loop-kept.number-is, c.ranges.count);
      high = omega (arith, ints, one.low, one.high, before.low, before.high, c.requires.0, c.requires.1, c.loop-kept-test.true, c.loop-kept.number-is, c.ranges.count);
    }

pub returns-clause-moved : goal.returns-clause-moved
returns-clause-moved c =
    let all = ap (λ ss. moved c.args.from.now c.args.to.now c.args.oid c.args.id (told ss)) (take_all c.loop-kept.kept-index c.args.steps.now c.loop-kept-test.false) in
    let before = c.loop-kept.invariant in
    omega (arith, ints, all, before.moved, c.requires.0, c.requires.1, c.loop-kept.number-is, c.ranges.count)

pub returns-clause-rows : goal.returns-clause-rows
returns-clause-rows c = λ floor kept rows stands same covers_from covers_to is.
    let all = ap (λ ss. moved c.args.from.now c.args.to.now c.args.oid c.args.id (told ss)) (take_all c.loop-kept.kept-index c.args.steps.now c.loop-kept-test.false) in
    let before = c.loop-kept.invariant in
    let whole = count_stands c.args.oid c.args.id floor kept rows stands c.args.from.now c.args.to.now covers_from covers_to in
    let steps = moved_behind c.args.from.now c.args.to.now c.args.oid c.args.id kept.steps _ same in
    omega (arith, ints, all, before.moved, c.requires.0, c.requires.1, c.loop-kept.number-is, c.ranges.count, whole, steps, is)

pub returns-clause-low : goal.returns-clause-low
returns-clause-low c =
    let before = c.loop-kept.invariant in
    omega (arith, ints, before.low, c.requires.0, c.requires.1, c.loop-kept.number-is, c.ranges.count, c.loop-kept.auto.kept-index-end)

pub returns-clause-high : goal.returns-clause-high
returns-clause-high c =
    let before = c.loop-kept.invariant in
    omega (arith, ints, before.high, c.requires.0, c.requires.1, c.loop-kept.number-is, c.ranges.count, c.loop-kept.auto.kept-index-end)
