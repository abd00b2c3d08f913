use Rattle.std.proofs.Common.{◌≡◌, take}
use Rattle.walter_objects.specs.Preferred.{homes_of}
use Rattle.walter_tables.proofs.tables.Tables.homes.Given as goal

-- the sites of the updates so far
abbrev pub invariant-loop-update : goal.invariant-loop-update
invariant-loop-update l = l.sites ≡ homes_of l.fn.self.catalog (take l.update-index l.updates)
