-- Of how many areas a journal is has one proof at most.
use Rattle.std.proofs.Common.{◌≡◌, ◌≤◌, ℕ, inl, inr, ap, arith}
use Rattle.std.proofs.Props.{props as usual}
use Rattle.walter_checkpoint.specs.Loads.{IsAreas}

one_prop : (areas : ℕ) → IsProp (areas ≡ 1)
one_prop areas = hlevel usual

two_prop : (areas capacity : ℕ) → IsProp ((areas ≡ 2) × (47 ≤ capacity))
two_prop areas capacity = hlevel usual

pub IsAreas-prop : (areas capacity : ℕ) → IsProp (IsAreas areas capacity)
IsAreas-prop areas capacity (inl a) (inl b) = ap inl (one_prop areas a b)
IsAreas-prop areas capacity (inl a) (inr b) = absurd (omega (arith, a, b.0))
IsAreas-prop areas capacity (inr a) (inl b) = absurd (omega (arith, a.0, b))
IsAreas-prop areas capacity (inr a) (inr b) = ap inr (two_prop areas capacity a b)

pub ruleset props = (usual, IsAreas-prop)
