-- Whether a test passes somewhere in a list.
use Rattle.std.proofs.Common.{◌≡◌, ℕ, zero, suc, ◌<◌, ◌||◌, Bool, true, false, List, [], ◌∷◌, refl, ap, ◌∙◌, length, arith}
use Rattle.std.specs.Prelude.{slice_get}
use Rattle.std.specs.List.{list_any}
use Rattle.std.specs.Option.{option_map_or}

-- whether a test passes at a place
abbrev pub passes_at : {X : Type 0} → (X → Bool) → List X → ℕ → Bool
passes_at test xs place = option_map_or test (slice_get xs place) false

pub any_passes : {X : Type 0} (test : X → Bool) (xs : List X) (place : ℕ) → passes_at test xs place ≡ true → list_any test xs ≡ true
any_passes test [] place is = absurd (cc)
any_passes test (x ∷ xs) zero is = ap (λ b. b || list_any test xs) is
any_passes test (x ∷ xs) (suc place) is = elim (test x) as (λ b. b || list_any test xs ≡ true) [
  | true ↦ refl
  | false ↦ any_passes test xs place is
]

pub none_passes : {X : Type 0} (test : X → Bool) (xs : List X) → ((place : ℕ) → place < length xs → passes_at test xs place ≡ false) → list_any test xs ≡ false
none_passes test [] each = refl
none_passes test (x ∷ xs) each = ap (λ b. b || list_any test xs) (each 0 (omega arith)) ∙ none_passes test xs (λ place lt. each (suc place) (omega arith))
