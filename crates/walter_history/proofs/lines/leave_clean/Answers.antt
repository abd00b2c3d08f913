use Rattle.std.proofs.Common.{◌-◌, min, ap, ◌∙◌, slice_get, subst, sym, arith}
use Rattle.walter_history.specs.Kept.{IsClean}
use Rattle.walter_history.specs.Lines.{AreFirst}
use Rattle.walter_history.proofs.LinesFirst.{fewer, swap_within, at_swapped}
use Rattle.walter_history.proofs.LinesStand.{same_lines}
use Rattle.walter_history.proofs.lines.leave_clean.Goals as goal

pub returns-clause-within : goal.returns-clause-within
returns-clause-within c = omega (arith, c.swap_indices.ensures.reordered.1, c.if-clean-place.false, c.requires.clean.within)

pub returns-clause-clean : goal.returns-clause-clean
returns-clause-clean c =
    let clean = c.args.clean in
    let first = c.if-clean-place.false in
    subst (AreFirst IsClean (min clean (clean - 1))) (sym c.swap_indices.ensures.entries)
    (fewer IsClean (min clean (clean - 1)) clean _ (omega arith)
    (swap_within IsClean clean c.args.lines.now.entries c.requires.clean c.args.place (clean - 1) first (omega (arith, first))))

pub returns-clause-moved : goal.returns-clause-moved
returns-clause-moved c =
    let last = c.args.clean - 1 in
    ap (λ es. slice_get es last) c.swap_indices.ensures.entries
    ∙ at_swapped c.args.lines.now.entries c.args.place last c.requires.within (omega (arith, c.if-clean-place.false, c.requires.clean.within))

pub returns-clause-same : goal.returns-clause-same
returns-clause-same c = same_lines c.args.lines.now.entries c.swap_indices.new.self.entries c.swap_indices.ensures.reordered.2
