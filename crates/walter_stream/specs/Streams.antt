-- What is known of streams.
use Rattle.std.specs.Prelude.{◌≡◌, ◌<◌, ◌≤◌, ℕ, List, [], ◌++◌, length, take, option_map, Option, Some, None}

-- nothing is left, where that is told
abbrev pub AtEnd : Option (List ℕ) → Type 0
AtEnd None = Unit {0}
AtEnd (Some rest) = rest ≡ []

-- these bytes were taken from the front of what was left
abbrev pub TakesFront : (old new : Option (List ℕ)) → List ℕ → Type 0
TakesFront old new front = old ≡ option_map (λ rest. front ++ rest) new

-- some bytes were taken from the front of what was left
abbrev pub TakesSome : (old new : Option (List ℕ)) → Type 0
TakesSome old new = (front : List ℕ) × TakesFront old new front

-- more bytes than the limit were taken from the front of what was left
abbrev pub TakesMoreThan : ℕ → (old new : Option (List ℕ)) → Type 0
TakesMoreThan limit old new = (front : List ℕ) × (limit < length front) × TakesFront old new front

-- these bytes were put behind what was held
abbrev pub Appends : (old new : Option (List ℕ)) → List ℕ → Type 0
Appends old new bytes = new ≡ option_map (λ held. held ++ bytes) old

-- a front of these bytes was put behind what was held
abbrev pub AppendsFront : (old new : Option (List ℕ)) → List ℕ → Type 0
AppendsFront old new bytes = (n : ℕ) × (n ≤ length bytes) × Appends old new (take n bytes)
