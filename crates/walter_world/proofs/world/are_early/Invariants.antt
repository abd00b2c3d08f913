use Rattle.std.proofs.Common.{◌<◌, ℕ, reverse}
use Rattle.walter_rules.specs.Knowledge.{site_at}
use Rattle.walter_rules.specs.Merges.{trail_of}
use Rattle.walter_rules.specs.Trails.{clock}
use Rattle.walter_world.specs.Worlds.{trails_of}
use Rattle.walter_world.proofs.world.are_early.Given as goal

-- the first ones have stamps left
abbrev pub invariant-loop-seat : goal.invariant-loop-seat
invariant-loop-seat l =
    (i : ℕ) → i < l.seat-index → clock (reverse (trail_of (trails_of l.seats) (site_at i))) < 4294967295
