-- The room for more places of a site.
use Rattle.std.proofs.Common.{◌≡◌, ◌-◌, ℕ, zero, suc, List, [], ◌∷◌, map, refl, vec_len, vec_capacity}
use Rattle.std.specs.Prelude.{slice_index}
use Rattle.std.specs.Global.{Vec}
use Rattle.walter_base.specs.declared.names.SiteId.{SiteId}
use Rattle.walter_log.specs.Places.{room_at}

abbrev pub rooms_in : List (Vec ℕ) → List ℕ
rooms_in places = map (λ list. vec_capacity list - vec_len list) places

pub room_is : (places : List (Vec ℕ)) (site : SiteId) → slice_index (rooms_in places) site.0 ≡ room_at places site
room_is places site = by places site.0
  where
    by : (places : List (Vec ℕ)) (k : ℕ) → slice_index (rooms_in places) k ≡ room_at places (record { 0 = k })
    by [] k = refl
    by (list ∷ places) zero = refl
    by (list ∷ places) (suc k) = by places k
