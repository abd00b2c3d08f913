use Rattle.std.proofs.Common.{◌≡◌, ◌<◌, ℕ, List, length, Some, refl, ap, sym, ◌∙◌, slice_get, slice_index_or}
use Rattle.std.proofs.lemmas.Option.{slice_get-get_or}
use Rattle.walter_rules.specs.declared.entry.Entry.{Entry}
use Rattle.walter_world.proofs.happening.delivery.Goals as goal
use Rattle.walter_rules.specs.Merges.{put_out_to}
use Rattle.walter_world.specs.declared.seat.Seat.{Seat}
use Rattle.walter_machine.specs.Posts.{of_number}
use Rattle.walter_world.specs.Events.{a_packet}
use Rattle.walter_world.proofs.Bringing.{found_put}

pub returns : goal.returns
returns c =
    let seats = c.args.seats.now in
    let from = c.args.from in
    let seat = c.index-seats-from.result in
    let within : from.0 < length seats = c.requires in
    let at : slice_get seats from.0 ≡ Some seat =
    slice_get-get_or seats from.0 seat within
    ∙ ap (λ (s : Seat). Some s) (sym (c.index-seats-from.is ∙ ap (λ (n : ℕ). slice_index_or seats n seat) c.from.ensures)) in (
      a_packet from c.args.number c.in-Some.put c.in-Some.packet
          (found_put seats from c.args.to c.args.number seat c.in_ok-put.field-0 at
          (c.in_ok-put.ensures
          ∙ (ap (λ (es : List Entry). of_number c.args.number (put_out_to c.args.to es)) c.deref.ensures.value
          ∙ ap (λ (s : Seat). of_number c.args.number (put_out_to c.args.to s.entries.items)) (sym c.index-seats-from.is)))
          ∙ c.in-Some.is),
      refl,
    )
