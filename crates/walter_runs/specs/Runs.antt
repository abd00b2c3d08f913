-- A run: the entries of all sites, each with its site, the newest first; each is right after those of its own site,
-- and what is delivered was put out before.
use Rattle.std.specs.Prelude.{◌≡◌, ◌<◌, ℕ, List, [], ◌∷◌, length, Contains}
use Rattle.walter_base.specs.declared.catalog.Catalog.{Catalog}
use Rattle.walter_base.specs.declared.names.SiteId.{SiteId}
use Rattle.walter_base.specs.declared.packet.Packet.{Packet}
use Rattle.walter_rules.specs.declared.entry.Entry.{Entry}
use Rattle.walter_rules.specs.declared.event.Event.TheVariants.{Given}
use Rattle.walter_rules.specs.declared.event.Input.TheVariants.{Deliver}
use Rattle.walter_rules.specs.Layouts.{Layout}
use Rattle.walter_rules.specs.Merges.{Named, entries_of, trail_of, AreLinked}
use Rattle.walter_rules.specs.Standing.{Standing}
use Rattle.walter_rules.specs.Trails.{standing, IsRightEntry, IsRightTrail}

-- how each site stands after a run
abbrev pub stands : Catalog → List Named → SiteId → Standing
stands catalog run i = standing catalog i (entries_of i run)

-- a site has put the packet out to another
pub record IsPut (run : List Named) (j i : SiteId) (packet : Packet) : Type 0 where
  pub entry : Entry
  pub here : Contains run (j, entry)
  pub sent : Contains entry.came.sends (i, packet)

-- a right entry of one of the sites, and what is delivered was put out to it
pub record IsNext (catalog : Catalog) (layouts : SiteId → Layout) (older : List Named) (n : Named) : Type 0 where
  pub below : n.0.0 < catalog.sites
  pub right : IsRightEntry catalog (layouts n.0) n.0 (entries_of n.0 older) n.1
  pub put : (j : SiteId) (number : ℕ) (packet : Packet) → n.1.event ≡ Given (Deliver j number packet)
      → IsPut older j n.0 packet

abbrev pub IsRun : Catalog → (SiteId → Layout) → List Named → Type 0
IsRun catalog layouts [] = Unit {0}
IsRun catalog layouts (n ∷ older) = IsRun catalog layouts older × IsNext catalog layouts older n

-- the trails of all sites of a catalog, each right by itself, and linked
pub record AreRightTrails (catalog : Catalog) (layouts : SiteId → Layout) (trails : List (List Entry)) : Type 0 where
  pub one_each : length trails ≡ catalog.sites
  pub right : (i : SiteId) → i.0 < catalog.sites → IsRightTrail catalog (layouts i) i (trail_of trails i)
  pub linked : AreLinked trails
