use Rattle.std.proofs.Common.{◌≤◌, vec_capacity}
use Rattle.walter_world.specs.Worlds.{HaveOpened}
use Rattle.walter_world.proofs.world.seats_of.Given as goal

-- the first ones have come up
abbrev pub invariant-loop-site : goal.invariant-loop-site
invariant-loop-site l = record {
  opened : HaveOpened l.format l.catalog l.site l.seats.items;
  room : l.catalog.sites ≤ vec_capacity l.seats;
}
