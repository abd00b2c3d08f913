use Rattle.std.proofs.Common.{◌≡◌, length, subst, arith}
use Rattle.walter_history.specs.Kept.{IsFoldedAt}
use Rattle.walter_history.specs.Lines.{AreFirst}
use Rattle.walter_history.proofs.LinesStand.{all_folded}
use Rattle.walter_history.proofs.lines.fold_lines.Goals as goal

pub returns-clause-folded : goal.returns-clause-folded
returns-clause-folded c =
    let floor = c.args.floor.now in
    let entries = c.loop-place.lines.entries in
    let inv = c.loop-place.invariant in
    let all : c.loop-place.place ≡ length entries = omega (arith, inv.folded.within, inv.len, c.loop-place-test.false, c.len-place-end.ensures.len) in
    all_folded floor entries (subst (λ n. AreFirst (IsFoldedAt floor) n entries) all inv.folded)
