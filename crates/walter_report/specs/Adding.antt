-- What one commit more makes of counts by site.
use Rattle.std.specs.Prelude.{ℕ, zero, suc, ◌+◌, List, [], ◌∷◌}

-- one more at this place, where there is one
abbrev pub one_more : ℕ → List ℕ → List ℕ
one_more place [] = []
one_more zero (count ∷ counts) = (count + 1) ∷ counts
one_more (suc place) (count ∷ counts) = count ∷ one_more place counts
