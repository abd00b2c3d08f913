use Rattle.std.proofs.Common.{◌≡◌, ◌<◌, ℕ, Some, ap, sym, ◌∙◌, slice_get, arith, inl, inr, reverse, subst}
use Rattle.std.proofs.lemmas.Bool.{cases_lt}
use Rattle.std.proofs.lemmas.Option.{slice_get-get_or}
use Rattle.walter_rules.specs.Knowledge.{site_at}
use Rattle.walter_rules.specs.Merges.{trail_of}
use Rattle.walter_rules.specs.Trails.{clock}
use Rattle.walter_world.specs.declared.seat.Seat.{Seat}
use Rattle.walter_world.specs.Worlds.{trails_of}
use Rattle.walter_world.proofs.SeatTrails.{early_at, early_here}
use Rattle.walter_world.proofs.world.are_early.Goals as goal

pub returns-then-clock-ge-END_OF_STAMPS : goal.returns-then-clock-ge-END_OF_STAMPS
returns-then-clock-ge-END_OF_STAMPS c =
    let seats = c.args.seats.now in
    let n = c.loop-seat.seat-index in
    let seat = c.seat-item.result in
    let at : slice_get seats n ≡ Some seat =
    slice_get-get_or seats n seat c.loop-seat-test.true ∙ ap (λ (s : Seat). Some s) (sym c.seat-item.is) in (
      λ is. absurd cc,
      λ early.
          let low = early_at seats n seat 4294967295 early at in
          let is = c.clock.ensures in
          let high = c.if-clock-ge-END_OF_STAMPS.true in
          absurd (omega (arith, low, is, high)),
    )

pub loop-seat-preserved : goal.loop-seat-preserved
loop-seat-preserved c i below =
    let seats = c.args.seats.now in
    let n = c.loop-seat.seat-index in
    let seat = c.seat-item.result in
    let at : slice_get seats n ≡ Some seat =
    slice_get-get_or seats n seat c.loop-seat-test.true ∙ ap (λ (s : Seat). Some s) (sym c.seat-item.is) in
    elim (cases_lt i n) [
      | inl before ↦ c.loop-seat.invariant i before
      | inr past ↦
          let same : n ≡ i = omega (arith, below, past) in
          let low = c.if-clock-ge-END_OF_STAMPS.false in
          let is = c.clock.ensures in
          subst (λ (k : ℕ). clock (reverse (trail_of (trails_of seats) (site_at k))) < 4294967295) same
          (early_here seats n seat 4294967295 at (omega (arith, low, is)))
    ]
