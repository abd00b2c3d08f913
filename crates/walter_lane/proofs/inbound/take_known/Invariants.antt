use Rattle.std.proofs.Common.{◌≡◌, ◌++◌, take, drop, vec_capacity}
use Rattle.rtrb.specs.Ring.{received, known_items, SameConsumer}
use Rattle.walter_lane.proofs.inbound.take_known.Given as goal

abbrev pub invariant-loop : goal.invariant-loop
invariant-loop l =
    SameConsumer l.initial.consumer l.consumer
    × (received l.consumer ≡ received l.initial.consumer ++ take l.counter (known_items l.initial.consumer))
    × (known_items l.consumer ≡ drop l.counter (known_items l.initial.consumer))
    × (l.arrived.items ≡ l.initial.arrived.items ++ take l.counter (known_items l.initial.consumer))
    × (vec_capacity l.arrived ≡ vec_capacity l.initial.arrived)
