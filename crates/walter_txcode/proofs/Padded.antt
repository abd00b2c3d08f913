-- A vector, filled up by 0.
use Rattle.std.proofs.Common.{◌≡◌, ℕ, zero, suc, ◌-◌, ◌≤◌, List, [], ◌∷◌, ◌++◌, length, get_or, replicate, refl, arith}
use Rattle.std.proofs.lemmas.List.{length-append, length-replicate}

zero_at : (k i : ℕ) → let n : ℕ = 0 in get_or (replicate k n) i 0 ≡ n
zero_at zero i = refl
zero_at (suc k) zero = refl
zero_at (suc k) (suc i) = zero_at k i

-- behind a vector, where it is filled up by 0, there is nothing new
pub padded_at : (v : List ℕ) (k i : ℕ) → get_or (v ++ replicate k 0) i 0 ≡ get_or v i 0
padded_at [] k i = zero_at k i
padded_at (n ∷ v) k zero = refl
padded_at (n ∷ v) k (suc i) = padded_at v k i

abbrev pub padded : List ℕ → List ℕ
padded v = v ++ replicate (8 - length v) 0

pub length-padded : (v : List ℕ) → length v ≤ 8 → length (padded v) ≡ 8
length-padded v few = omega (arith, length-append v (replicate (8 - length v) 0), length-replicate {A = ℕ} (8 - length v) 0)
