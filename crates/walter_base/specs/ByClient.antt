-- Lists of what is of clients, each by the number of its client.
use Rattle.std.specs.Prelude.{◌≡◌, ℕ, nat_eq, not, List, [], ◌∷◌, map, filter, Option, None, if◌then◌else◌}
use Rattle.std.specs.Map.{lookup}

module _ {X : Type 0} where
  -- what a client has, if it has something
  abbrev pub of_client : ℕ → List (ℕ × X) → Option X
  of_client client es = lookup (nat_eq client) es

  -- no two are of one client
  abbrev pub AreApart : List (ℕ × X) → Type 0
  AreApart [] = Unit {0}
  AreApart (e ∷ es) = (of_client e.0 es ≡ None) × AreApart es

  -- what is of the client changes, and what is of others stays
  abbrev pub changed : ℕ → (X → X) → List (ℕ × X) → List (ℕ × X)
  changed client f es = map (λ e. if nat_eq client e.0 then (e.0, f e.1) else e) es

  -- without what is of the client
  abbrev pub without : ℕ → List (ℕ × X) → List (ℕ × X)
  without client es = filter (λ e. not (nat_eq client e.0)) es
