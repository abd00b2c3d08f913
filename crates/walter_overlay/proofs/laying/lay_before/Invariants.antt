use Rattle.std.proofs.Common.{◌≤◌, ◌-◌, ℕ, List, ◌∷◌, length, drop}
use Rattle.std.specs.Prelude.{ℤ}
use Rattle.walter_overlay.specs.Laying.{AreLaid}
use Rattle.walter_overlay.proofs.laying.lay_before.Given as goal

-- the moves from the next place on are left
abbrev pub invariant-loop-next : goal.invariant-loop-next
invariant-loop-next l = record {
  within : l.next ≤ length l.moves;
  laid : (numbers : ℕ → ℤ) (number : ℤ) (others : List (ℕ × ℤ)) → AreLaid numbers ((l.id, number) ∷ others) (drop l.place l.moves) l.initial.items.items
      → AreLaid numbers ((l.id, number) ∷ others) (drop l.next l.moves) l.items.items;
}

abbrev pub decreases-loop-next : goal.decreases-loop-next
decreases-loop-next l = length l.moves - l.next
