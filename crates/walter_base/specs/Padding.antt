-- Lists that are 0 from a place on.
use Rattle.std.proofs.Common.{◌≡◌, ℕ, zero, suc, ◌+◌, ◌-◌, ◌≤◌, List, [], ◌∷◌, ◌++◌, length, take, replicate, refl, ap, sym, ◌∙◌, arith}
use Rattle.std.specs.Prelude.{slice_index}
use Rattle.std.proofs.lemmas.List.{length-take-le}
use Rattle.walter_base.specs.Vectors.{most_sites, NoneFrom}

-- without its first element
rest_none : (n x : ℕ) (es : List ℕ) → NoneFrom (suc n) (x ∷ es) → NoneFrom n es
rest_none n x es none k le = none (suc k) (omega arith)

pub zeros : (es : List ℕ) → NoneFrom 0 es → replicate (length es) 0 ≡ es
zeros [] none = refl
zeros (x ∷ es) none =
    let first : x ≡ 0 = none 0 (omega arith) in
    let others = zeros es (λ k le. none (suc k) (omega arith)) in
    (λ i. sym first i ∷ others i)

-- the front, filled up with as many 0 as are missing, is the list
pub padded : (n missing : ℕ) (es : List ℕ) → NoneFrom n es → n + missing ≡ length es → take n es ++ replicate missing 0 ≡ es
padded zero missing es none is = ap (λ k. replicate k 0) (omega (arith, is)) ∙ zeros es none
padded (suc n) missing [] none is = absurd (omega (arith, is))
padded (suc n) missing (x ∷ es) none is = ap (λ t. x ∷ t) (padded n missing es (rest_none n x es none) (omega (arith, is)))

-- the front of a list of a number for each site that there may be, filled up
pub filled : (n : ℕ) (es : List ℕ) → n ≤ most_sites → length es ≡ most_sites → NoneFrom n es → take n es ++ replicate (most_sites - length (take n es)) 0 ≡ es
filled n es le all none =
    let front : length (take n es) ≡ n = length-take-le n es (omega (arith, all)) in
    padded n (most_sites - length (take n es)) es none (omega (arith, front, all, le))

-- an entry of the front is that of the list
pub at_front : (n : ℕ) (es : List ℕ) (k : ℕ) → NoneFrom n es → slice_index (take n es) k ≡ slice_index es k
at_front zero es k none = sym (none k (omega arith))
at_front (suc n) [] k none = refl
at_front (suc n) (x ∷ es) zero none = refl
at_front (suc n) (x ∷ es) (suc k) none = at_front n es k (rest_none n x es none)
