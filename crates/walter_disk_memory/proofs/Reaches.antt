-- How far places reach.
use Rattle.std.proofs.Common.{ℕ, ◌+◌, ◌≤◌, List, [], ◌∷◌, ◌++◌, arith}
use Rattle.walter_disk_memory.specs.declared.place.Place.{Place}
use Rattle.walter_disk_memory.specs.Rooms.{reach}

-- one more place reaches no further than the others and itself
pub reach_more : (places : List Place) (place : Place) (end : ℕ) → reach places ≤ end → place.at + place.count ≤ end → reach (places ++ place ∷ []) ≤ end
reach_more [] place end others here = omega arith
reach_more (p ∷ places) place end others here =
    let rest : reach places ≤ end = omega arith in
    omega (arith, reach_more places place end rest here)
