-- The places at which the transactions of each site stand.
use Rattle.std.specs.Prelude.{ℕ, ◌-◌, List, [], slice_get, vec_len, vec_capacity}
use Rattle.std.specs.Global.{Vec}
use Rattle.std.specs.Option.{option_map_or}
use Rattle.walter_base.specs.declared.names.SiteId.{SiteId}

abbrev pub places_of : List (Vec ℕ) → SiteId → List ℕ
places_of places site = option_map_or (λ list. list.items) (slice_get places site.0) []

-- how many more of the site can be put without memory
abbrev pub room_at : List (Vec ℕ) → SiteId → ℕ
room_at places site = option_map_or (λ list. vec_capacity list - vec_len list) (slice_get places site.0) 0
