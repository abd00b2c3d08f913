use Rattle.walter_cluster.specs.Seats.{lists_in, HavePlaces, AreEmpty}
use Rattle.walter_cluster.proofs.seating.make_lists.Given as goal

abbrev pub invariant-loop : goal.invariant-loop
invariant-loop g l = record {
  places : HavePlaces l.counter l.clients (lists_in l.lists.items);
  empty : AreEmpty (lists_in l.lists.items);
}
