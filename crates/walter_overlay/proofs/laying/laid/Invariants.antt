use Rattle.std.proofs.Common.{◌≤◌, length, drop}
use Rattle.std.specs.Prelude.{◌+ℤ◌}
use Rattle.walter_cset.specs.Tallies.{number_at, number_in}
use Rattle.walter_overlay.specs.Laying.{AreLaid}
use Rattle.walter_overlay.proofs.laying.laid.Given as goal

-- what is left of both
abbrev pub invariant-loop-id : goal.invariant-loop-id
invariant-loop-id l = record {
  within : l.place ≤ length l.moves;
  laid : AreLaid (λ id. number_at l.base id +ℤ number_in l.moves id) l.id-iterator (drop l.place l.moves) l.items.items;
}
