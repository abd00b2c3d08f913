use Rattle.std.proofs.Common.{◌≤◌, vec_len}
use Rattle.walter_machine.proofs.places.make_places.Given as goal

abbrev pub invariant-loop : goal.invariant-loop
invariant-loop l = l.counter ≤ vec_len l.places
