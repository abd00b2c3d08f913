use Rattle.std.proofs.Common.{◌-◌, ◌<◌, length, arith}
use Rattle.walter_history.proofs.Linked.{seen_before}
use Rattle.walter_history.proofs.steps.stride_back.Goals as goal

pub returns-then-both_cover-clause-seen : goal.returns-then-both_cover-clause-seen
returns-then-both_cover-clause-seen c =
    let l = c.loop-stride in
    let steps = c.args.steps.now in
    let place = l.end - l.stride in
    let inside : place < length steps = omega (arith, l.invariant, c.loop-stride-test.true) in
    seen_before steps place c.args.from.now c.args.to.now c.index-steps-place.result inside c.requires (c.both_cover.ensures c.if-both_cover.true)
