use Rattle.std.proofs.Common.{◌<◌, length, sym, subst}
use Rattle.walter_locks.specs.Parts.{Table, room_of}
use Rattle.walter_locks.proofs.locks.Locks.reserve.Goals as goal

pub returns-clause-had : goal.returns-clause-had
returns-clause-had c can all =
    c.make_room.ensures.had (λ place within. subst (λ (t : Table). 0 < room_of t.dead place) (sym c.self.view_is)
    (all (record { 0 = place }) (subst (λ (t : Table). place < length t.dead) c.self.view_is within)))
