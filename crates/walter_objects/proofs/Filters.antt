-- Two tests one after the other are one.
use Rattle.std.proofs.Common.{◌≡◌, Bool, true, false, cond, ◌&&◌, List, [], ◌∷◌, filter, refl, ap}

pub both_filter : {X : Type 0} (p q : X → Bool) (xs : List X) → filter (λ x. q x && p x) xs ≡ filter p (filter q xs)
both_filter p q [] = refl
both_filter p q (x ∷ xs) =
    let rest = both_filter p q xs in
    elim (q x) as (λ b. cond (b && p x) (x ∷ filter (λ y. q y && p y) xs) (filter (λ y. q y && p y) xs)
    ≡ filter p (cond b (x ∷ filter q xs) (filter q xs))) [
      | true ↦ ap (λ ys. cond (p x) (x ∷ ys) ys) rest
      | false ↦ rest
    ]
