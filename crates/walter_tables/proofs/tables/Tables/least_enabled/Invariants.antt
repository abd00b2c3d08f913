use Rattle.std.proofs.Common.{◌≡◌, ◌<◌, ℕ, false}
use Rattle.walter_rules.specs.Deliveries.{can_advance}
use Rattle.walter_rules.specs.Knowledge.{Knowledge, site_at}
use Rattle.walter_tables.specs.Sites.{Stands, catalog_of, site_of}
use Rattle.walter_tables.proofs.tables.Tables.least_enabled.Given as goal

-- none of the peers so far has a next commit that can be committed here
abbrev pub invariant-loop-from : goal.invariant-loop-from
invariant-loop-from l = (K : Knowledge) → Stands l.self K
    → (k : ℕ) → k < l.from → can_advance (catalog_of l.self) (site_of l.self) K (site_at k) ≡ false
