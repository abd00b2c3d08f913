-- What is found to come to a site comes to it.
use Rattle.std.proofs.Common.{◌≡◌, ℕ, Bool, List, Option, Some, ap, sym, ◌∙◌, subst, slice_get}
use Rattle.walter_base.specs.declared.names.SiteId.{SiteId}
use Rattle.walter_rules.specs.declared.entry.Entry.{Entry}
use Rattle.walter_rules.specs.declared.event.Event.{Event}
use Rattle.walter_rules.specs.Merges.{Stamped, put_out_to}
use Rattle.walter_world.specs.declared.events.What.{What}
use Rattle.walter_world.specs.declared.happening.Happening.{Happening}
use Rattle.walter_world.specs.declared.seat.Seat.{Seat}
use Rattle.walter_machine.specs.Posts.{of_number}
use Rattle.walter_world.specs.Events.{put_by, Brings, keeps}
use Rattle.walter_world.specs.Happenings.{IsHappening}
use Rattle.walter_world.specs.Worlds.{trails_of}
use Rattle.walter_world.proofs.SeatTrails.{trail_here}

pub happens : (trails : List (List Entry)) (i : SiteId) (what w : What) (event : Event) (put : ℕ) (keep : Bool)
    (h : Happening) → what ≡ w → h ≡ record { event = event; put = put; keeps = keep } → Brings trails i w event put
    → keep ≡ keeps w → IsHappening trails i what (Some h)
happens trails i what w event put keep h same is brings kept =
    subst (λ (x : What). IsHappening trails i x (Some h)) (sym same)
    (subst (λ (y : Happening). IsHappening trails i w (Some y)) (sym is) (brings, kept))

-- what was found among the entries of a site was put out by it
pub found_put : (seats : List Seat) (from to : SiteId) (number : ℕ) (seat : Seat) (found : Option Stamped)
    → slice_get seats from.0 ≡ Some seat → found ≡ of_number number (put_out_to to seat.entries.items)
    → put_by (trails_of seats) from to number ≡ found
found_put seats from to number seat found at is =
    ap (λ (t : List Entry). of_number number (put_out_to to t)) (trail_here seats from.0 seat at) ∙ sym is
