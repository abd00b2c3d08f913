use Rattle.std.proofs.Common.{◌-◌, ◌/◌, ◌+◌, ◌<◌, ◌≤◌, length, arith}
use Rattle.walter_history.proofs.Linked.{seen_before}
use Rattle.walter_history.proofs.steps.halve.Goals as goal

pub loop-place-preserved-then-both_cover : goal.loop-place-preserved-then-both_cover
loop-place-preserved-then-both_cover c =
    let l = c.loop-place in
    let steps = c.args.steps.now in
    let middle = l.place + (l.end - l.place) / 2 in
    let order : middle ≤ l.end = omega (arith, l.invariant.0) in
    let inside : middle < length steps = omega (arith, l.invariant.1, c.loop-place-test.true) in (
      order,
      l.invariant.1,
      seen_before steps middle c.args.from.now c.args.to.now c.index-steps-middle.result inside c.requires.linked (c.both_cover.ensures c.if-both_cover.true),
    )
