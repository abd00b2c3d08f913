use Rattle.std.proofs.Common.{◌≡◌, length}
use Rattle.walter_cluster.specs.Seats.{lists_in, HavePlaces, AreSeated, AreAtHome}
use Rattle.walter_cluster.proofs.seating.seat_all.Given as goal

abbrev pub invariant-loop-conn : goal.invariant-loop-conn
invariant-loop-conn g l = record {
  count : l.number ≡ length l.yielded;
  places : HavePlaces l.fn.sites (length l.clients) (lists_in l.lists.items);
  seated : AreSeated l.number l.clients l.fn.conns.items (lists_in l.lists.items);
  alone : AreAtHome l.clients (lists_in l.lists.items);
}
