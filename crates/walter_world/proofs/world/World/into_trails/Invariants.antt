use Rattle.std.proofs.Common.{◌≡◌, map, vec_capacity}
use Rattle.walter_world.specs.declared.seat.Seat.{Seat}
use Rattle.walter_world.proofs.world.World.into_trails.Given as goal

abbrev pub invariant-loop-seat : goal.invariant-loop-seat
invariant-loop-seat l = record {
  trails : l.trails.items ≡ map (λ (s : Seat). s.entries.items) l.yielded;
  room : vec_capacity l.trails ≡ vec_capacity l.initial.trails;
}
