use Rattle.std.proofs.Common.{◌≤◌, ◌-◌, ℕ, [], length, drop}
use Rattle.std.specs.Prelude.{ℤ}
use Rattle.walter_overlay.specs.Laying.{AreLaid}
use Rattle.walter_overlay.proofs.laying.lay_rest.Given as goal

-- the moves from the next place on are left
abbrev pub invariant-loop-next : goal.invariant-loop-next
invariant-loop-next l = record {
  within : l.next ≤ length l.moves;
  laid : (numbers : ℕ → ℤ) → AreLaid numbers [] (drop l.place l.moves) l.initial.items.items → AreLaid numbers [] (drop l.next l.moves) l.items.items;
}

abbrev pub decreases-loop-next : goal.decreases-loop-next
decreases-loop-next l = length l.moves - l.next
