-- The vector of a transaction, in either of its two forms on the heap.
use Rattle.std.specs.Prelude.{◌≡◌, ◌≤◌, ℕ, List, take, length}
use Rattle.std.specs.Arc.{arc_value}
use Rattle.walter_base.specs.Vectors.{most_sites}
use Rattle.walter_base.specs.declared.snapshot.Numbers.{Numbers}
use Rattle.walter_base.specs.declared.snapshot.Numbers.TheVariants.{Few, Many}

-- the numbers that are told
abbrev pub numbers_in : Numbers → List ℕ
numbers_in (Few few) = let held = arc_value few in take held.sites held.numbers
numbers_in (Many vector) = arc_value vector

-- there is no number behind the last place
abbrev pub IsVector : Numbers → Type 0
IsVector (Few few) = let held = arc_value few in (held.sites ≤ 8) × (length held.numbers ≡ 8)
IsVector (Many vector) = length (arc_value vector) ≤ most_sites
