use Rattle.std.proofs.Common.{◌≡◌, ◌≤◌}
use Rattle.indexmap.specs.IndexMap.{index_map_len}
use Rattle.walter_history.specs.Kept.{IsClean, IsFoldedAt}
use Rattle.walter_history.specs.Lines.{lines_in, AreFirst, AreOwn, StandAs}
use Rattle.walter_history.proofs.lines.fold_lines.Given as goal

abbrev pub invariant-loop-place : goal.invariant-loop-place
invariant-loop-place l = record {
  behind : l.front ≤ l.place;
  len : index_map_len l.lines ≡ index_map_len l.initial.lines;
  clean : AreFirst IsClean l.front l.lines.entries;
  folded : AreFirst (IsFoldedAt l.floor) l.place l.lines.entries;
  own : AreOwn (lines_in l.lines.entries);
  stand : StandAs l.floor (lines_in l.initial.lines.entries) (lines_in l.lines.entries);
}
