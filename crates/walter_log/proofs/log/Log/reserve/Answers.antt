use Rattle.std.proofs.Common.{ap, arith}
use Rattle.walter_log.specs.Logged.{Logged, room_of}
use Rattle.walter_log.proofs.Rooms.{room_is}
use Rattle.walter_log.proofs.log.Log.reserve.Goals as goal

pub returns-clause-room : goal.returns-clause-room
returns-clause-room c other =
    let before = ap (λ (v : Logged). room_of v other) c.self.view_is in
    omega (
      arith,
      before,
      room_is c.self.inside.places.items other,
      room_is c.make_room.new.places.items other,
      c.make_room.ensures.room other,
      c.reserve.ensures.capacity,
      c.reserve.ensures.len,
      c.reserve-2.ensures.room.0,
    )
