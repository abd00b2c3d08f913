use Rattle.std.proofs.Common.{◌≡◌, map, vec_capacity}
use Rattle.std.specs.List.{range_with_len}
use Rattle.walter_link.specs.Pumps.{new_sender}
use Rattle.walter_link.proofs.pump.Pump.new.Given as goal

-- the senders so far, and room for all
abbrev pub invariant-loop-from : goal.invariant-loop-from
invariant-loop-from l =
    (l.senders.items ≡ map (new_sender l.link l.site) (range_with_len 0 l.from)) × (vec_capacity l.senders ≡ l.sites)
