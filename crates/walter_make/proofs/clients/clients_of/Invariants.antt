use Rattle.std.proofs.Common.{◌≡◌, map}
use Rattle.std.specs.List.{range_with_len}
use Rattle.walter_make.specs.Made.{made_client}
use Rattle.walter_make.proofs.clients.clients_of.Given as goal

abbrev pub invariant-loop-number : goal.invariant-loop-number
invariant-loop-number l = l.clients.items ≡ map (made_client l.calls) (range_with_len 0 l.number)
