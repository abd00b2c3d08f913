-- The connections of all clients, in lists by site and in each by the clients' numbers.
use Rattle.std.specs.Prelude.{◌≡◌, ◌≢◌, ◌<◌, ℕ, List, [], Vec, length, map, slice_get, slice_index_or, Option, Some}
use Rattle.std.specs.declared.alloc.Global.{Global}
use Rattle.walter_scenario.specs.declared.scenario.Client.{Client}

abbrev pub lists_in : {X : Type 0} → List (Vec (Option X) Global) → List (List (Option X))
lists_in {X = X} vs = map (λ (v : Vec (Option X) Global). v.items) vs

abbrev pub list_of : {X : Type 0} → List (List (Option X)) → ℕ → List (Option X)
list_of lists i = slice_index_or lists i []

-- so many lists, with a place for each of so many clients
pub record HavePlaces {X : Type 0} (sites clients : ℕ) (lists : List (List (Option X))) : Type 0 where
  pub lists_long : length lists ≡ sites
  pub list_long : (i : ℕ) → i < sites → length (list_of lists i) ≡ clients

-- the first clients have their connections in the lists of their sites
abbrev pub AreSeated : {X : Type 0} → ℕ → List Client → List X → List (List (Option X)) → Type 0
AreSeated {X = X} count clients conns lists = (number : ℕ) (client : Client) (line : X) → number < count
    → slice_get clients number ≡ Some client → slice_get conns number ≡ Some line
    → slice_get (list_of lists client.site.0) number ≡ Some (Some line)

-- no connection is in them
abbrev pub AreEmpty : {X : Type 0} → List (List (Option X)) → Type 0
AreEmpty {X = X} lists = (i number : ℕ) (line : X) → slice_get (list_of lists i) number ≢ Some (Some line)

-- whose connection is in the list of a site is of a client of that site
abbrev pub AreAtHome : {X : Type 0} → List Client → List (List (Option X)) → Type 0
AreAtHome {X = X} clients lists = (i number : ℕ) (line : X) → slice_get (list_of lists i) number ≡ Some (Some line)
    → (client : Client) × (slice_get clients number ≡ Some client) × (client.site.0 ≡ i)
