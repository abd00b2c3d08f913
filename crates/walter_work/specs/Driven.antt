-- How threads drive the sites of a scenario, to the end (docs/FORMATS.md, "The link").
use Rattle.std.specs.Prelude.{◌≡◌, ◌≢◌, ◌<◌, ◌≤◌, ◌+◌, ◌^◌, ◌⊎◌, ℕ, true, List, length, reverse, slice_get, Some, None}
use Rattle.walter_base.specs.declared.names.SiteId.{SiteId}
use Rattle.walter_conn.specs.Sequences.{AreAllCalls}
use Rattle.walter_link.specs.Choices.{copies}
use Rattle.walter_rules.specs.declared.entry.Entry.{Entry}
use Rattle.walter_rules.specs.Deliveries.{IsLeastEnabled}
use Rattle.walter_rules.specs.Knowledge.{site_at}
use Rattle.walter_rules.specs.Merges.{Stamped, put_out_to, trail_of}
use Rattle.walter_rules.specs.Trails.{clock, standing}
use Rattle.walter_scenario.specs.declared.scenario.Client.{Client}
use Rattle.walter_scenario.specs.declared.scenario.Scenario.{Scenario}
use Rattle.walter_trail.specs.Calls.{calls_of}
use Rattle.walter_work.specs.Worked.{IsWorked, deliveries_of, ticks_in}

-- the trail of a site is spent: it has no place for another entry, or none for that of a packet that was put out to it
pub data IsSpentAt (trails : List (List Entry)) (i : SiteId) : Type 0 where
  full : 100000 ≤ length (trail_of trails i) → IsSpentAt trails i
  late : 2 ^ 62 ≤ clock (reverse (trail_of trails i)) + 1 → IsSpentAt trails i
  late_packet : (from : SiteId) (place : ℕ) (put : Stamped)
      → slice_get (put_out_to i (trail_of trails from)) place ≡ Some put → 2 ^ 62 ≤ put.0 + 1 → IsSpentAt trails i

-- all calls of a client's bytes were made at its site, or the trail there is spent; unless connections can fail
abbrev pub HasAllCalled : (fails : Type 0) → List (List Entry) → ℕ → Client → Type 0
HasAllCalled fails trails number client = fails ⊎ (IsSpentAt trails client.site
    ⊎ AreAllCalls client.bytes (calls_of number (trail_of trails client.site)))

-- Nothing is left that a pump might do at a site: all ticks were made, each packet that was put out to it was delivered as
-- often as the link copies it, and where the site is told, it is up, and no peer's commit can be committed.
pub record IsIdleAt (told : Type 0) (t : Scenario) (trails : List (List Entry)) (i : SiteId) : Type 0 where
  pub ticks : ticks_in (trail_of trails i) ≡ t.ticks
  pub packets : (from : SiteId) (number : ℕ) → from ≢ i → from.0 < t.catalog.sites
      → number ≤ length (put_out_to i (trail_of trails from))
      → deliveries_of from number (trail_of trails i) ≡ copies t.link.seed t.link.rates i from number
  pub up : told → (standing t.catalog i (reverse (trail_of trails i))).up ≡ true
  pub none_enabled : told
      → IsLeastEnabled t.catalog i (standing t.catalog i (reverse (trail_of trails i))).knows None

-- each trail is worked; all clients have called to their end; and at each site whose trail isn't spent nothing is left for a
-- pump to do
pub record IsDriven (told : ℕ → Type 0) (fails : Type 0) (t : Scenario) (trails : List (List Entry)) : Type 0 where
  pub worked : (i : ℕ) → i < t.catalog.sites → IsWorked (told i) t (site_at i) (trail_of trails (site_at i))
  pub calls : (number : ℕ) (client : Client) → slice_get t.clients number ≡ Some client
      → HasAllCalled fails trails number client
  pub pumps : (i : ℕ) → i < t.catalog.sites → IsSpentAt trails (site_at i) ⊎ IsIdleAt (told i) t trails (site_at i)
