use Rattle.std.proofs.Common.{◌+◌, sym, ◌∙◌, subst, arith}
use Rattle.indexmap.specs.IndexMap.{set_value_at}
use Rattle.indexmap.specs.Layout.{length-set_value_at}
use Rattle.walter_history.specs.Kept.{IsClean, IsFoldedAt}
use Rattle.walter_history.specs.Lines.{lines_in, kept_by, AreFirst}
use Rattle.walter_history.proofs.LinesFirst.{set_behind, set_next, swap_within, set_swap}
use Rattle.walter_history.proofs.LinesFold.{is_folded}
use Rattle.walter_history.proofs.LinesStand.{own_at, stand_at, own_same, stand_same, stand_both, same_lines}
use Rattle.walter_history.proofs.lines.fold_at.Goals as goal

pub returns-then-not-is_clean : goal.returns-then-not-is_clean
returns-then-not-is_clean c =
    let floor = c.args.floor.now in
    let lines = c.args.lines.now in
    let was = c.in-Some.line.now in
    let line = c.fold.new.line in
    record {
      behind = omega (arith, c.requires.behind);
      clean = set_behind IsClean c.args.clean lines.entries c.requires.clean c.args.place line c.requires.behind;
      folded = set_next (IsFoldedAt floor) c.args.place lines.entries c.requires.folded line c.requires.within (is_folded floor (kept_by was) (kept_by line) c.fold.ensures.folds);
      own = own_at floor lines c.args.place was line c.in-Some.ensures.unique c.in-Some.ensures.value c.fold.ensures.folds c.requires.own;
      len = length-set_value_at lines.entries c.args.place line;
      stand = stand_at floor lines c.args.place was line c.in-Some.ensures.unique c.in-Some.ensures.value c.fold.ensures.folds c.requires.own c.fold.ensures.room;
    }

pub swap_indices-requires-clause-a_in_bounds : goal.swap_indices-requires-clause-a_in_bounds
swap_indices-requires-clause-a_in_bounds c = omega (arith, c.requires.within, c.requires.behind, length-set_value_at c.args.lines.now.entries c.args.place c.fold.new.line)

pub swap_indices-requires-clause-b_in_bounds : goal.swap_indices-requires-clause-b_in_bounds
swap_indices-requires-clause-b_in_bounds c = omega (arith, c.requires.within, length-set_value_at c.args.lines.now.entries c.args.place c.fold.new.line)

pub returns : goal.returns
returns c =
    let floor = c.args.floor.now in
    let lines = c.args.lines.now in
    let clean = c.args.clean in
    let place = c.args.place in
    let was = c.in-Some.line.now in
    let line = c.fold.new.line in
    let mid = set_value_at lines.entries place line in
    let long = length-set_value_at lines.entries place line in
    let is = c.swap_indices.ensures.entries in
    let same = same_lines mid c.swap_indices.new.self.entries c.swap_indices.ensures.reordered.2 in
    let now_clean : IsClean (kept_by line) = c.is_clean.ensures.0 c.if-not-is_clean.false in
    let folded = set_next (IsFoldedAt floor) place lines.entries c.requires.folded line c.requires.within (is_folded floor (kept_by was) (kept_by line) c.fold.ensures.folds) in
    let own = own_at floor lines place was line c.in-Some.ensures.unique c.in-Some.ensures.value c.fold.ensures.folds c.requires.own in
    let stand = stand_at floor lines place was line c.in-Some.ensures.unique c.in-Some.ensures.value c.fold.ensures.folds c.requires.own c.fold.ensures.room in
    record {
      behind = omega (arith, c.requires.behind);
      clean = subst (AreFirst IsClean (clean + 1)) (sym is) (set_swap IsClean clean lines.entries c.requires.clean place line c.requires.behind c.requires.within now_clean);
      folded = subst (AreFirst (IsFoldedAt floor) (place + 1)) (sym is) (swap_within (IsFoldedAt floor) (place + 1) mid folded clean place (omega (arith, c.requires.behind)) (omega arith));
      own = own_same (lines_in mid) (lines_in c.swap_indices.new.self.entries) same own;
      len = c.swap_indices.ensures.reordered.1 ∙ long;
      stand = stand_both floor (lines_in lines.entries) (lines_in mid) (lines_in c.swap_indices.new.self.entries) stand
          (stand_same (lines_in mid) (lines_in c.swap_indices.new.self.entries) same floor);
    }
