-- The trails of the sites of a world, by their places.
use Rattle.std.proofs.Common.{◌≡◌, ℕ, ◌<◌, List, [], map, reverse, slice_get, Option, Some, option_map, ap, sym, ◌∙◌, subst}
use Rattle.std.specs.Prelude.{unwrap_or}
use Rattle.std.proofs.lemmas.Option.{slice_get-map, unwrap_or-slice_get}
use Rattle.walter_base.specs.declared.names.SiteId.{SiteId}
use Rattle.walter_rules.specs.declared.entry.Entry.{Entry}
use Rattle.walter_rules.specs.Knowledge.{site_at}
use Rattle.walter_rules.specs.Merges.{trail_of}
use Rattle.walter_rules.specs.Trails.{clock}
use Rattle.walter_world.specs.declared.seat.Seat.{Seat}
use Rattle.walter_world.specs.Worlds.{trails_of}

pub trail_here : (seats : List Seat) (i : ℕ) (seat : Seat) → slice_get seats i ≡ Some seat
    → trail_of (trails_of seats) (site_at i) ≡ seat.entries.items
trail_here seats i seat at =
    let f = λ (s : Seat). s.entries.items in
    sym (unwrap_or-slice_get (map f seats) i [])
    ∙ ap (λ (o : Option (List Entry)). unwrap_or o []) (slice_get-map f seats i ∙ ap (option_map f) at)

-- one of them has so few stamps
pub early_at : (seats : List Seat) (i : ℕ) (seat : Seat) (bound : ℕ)
    → ((j : SiteId) → clock (reverse (trail_of (trails_of seats) j)) < bound) → slice_get seats i ≡ Some seat
    → clock (reverse seat.entries.items) < bound
early_at seats i seat bound early at =
    subst (λ (t : List Entry). clock (reverse t) < bound) (trail_here seats i seat at) (early (site_at i))

-- and so all have, where each has
pub early_here : (seats : List Seat) (i : ℕ) (seat : Seat) (bound : ℕ) → slice_get seats i ≡ Some seat
    → clock (reverse seat.entries.items) < bound → clock (reverse (trail_of (trails_of seats) (site_at i))) < bound
early_here seats i seat bound at early =
    subst (λ (t : List Entry). clock (reverse t) < bound) (sym (trail_here seats i seat at)) early
