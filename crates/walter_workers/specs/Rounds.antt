-- What rounds over a bench come to, in which each client has a turn and then each site is pumped (docs/FORMATS.md, "The
-- link").
use Rattle.std.specs.Prelude.{◌≡◌, ◌<◌, ◌≤◌, ◌+◌, ◌-◌, ◌⊎◌, ℕ, zero, suc, Bool, true, false, List, length, slice_get, Some, Result, Ok, IfOk, OnOk}
use Rattle.walter_base.specs.declared.memory.NoMemory.{NoMemory}
use Rattle.walter_cell.specs.declared.answers.Pumped.{Pumped}
use Rattle.walter_cell.specs.declared.answers.Pumped.TheVariants.{Did, Idle, Spent as IsSpent}
use Rattle.walter_cell.specs.declared.answers.Serve.{Serve}
use Rattle.walter_cell.specs.declared.answers.Serve.TheVariants.{Served, Ended, Broken, Spent}
use Rattle.walter_cluster.specs.Benches.{BenchValue, IsToldAt, trails_of}
use Rattle.walter_cluster.specs.Shared.{CanWork}
use Rattle.walter_disk.specs.declared.disk.Disk.{Ghosts}
use Rattle.walter_link.specs.Pumps.{PumpValue}
use Rattle.walter_rules.specs.declared.entry.Entry.{Entry}
use Rattle.walter_rules.specs.Knowledge.{site_at}
use Rattle.walter_rules.specs.Merges.{trail_of}
use Rattle.walter_scenario.specs.declared.scenario.Client.{Client}
use Rattle.walter_scenario.specs.declared.scenario.Scenario.{Scenario}
use Rattle.walter_work.specs.Driven.{HasAllCalled, IsIdleAt, IsSpentAt}

-- the client's call was answered; the site did something
abbrev pub is_served : Serve → Bool
is_served Served = true
is_served Ended = false
is_served Broken = false
is_served Spent = false

abbrev pub has_done : Pumped → Bool
has_done Did = true
has_done Idle = false
has_done IsSpent = false

-- how many entries the trails of the first so many sites have room for, and those of all
abbrev pub room_below : ℕ → List (List Entry) → ℕ
room_below zero trails = 0
room_below (suc n) trails = room_below n trails + (100000 - length (trail_of trails (site_at n)))

abbrev pub room_in : List (List Entry) → ℕ
room_in trails = room_below (length trails) trails

-- Trails go on: where something moved they have grown, and else they are the same, unless a connection has failed.
pub record Moves (fails : Type 0) (old new : List (List Entry)) (moved : Bool) : Type 0 where
  pub no_more : room_in new ≤ room_in old
  pub fewer : moved ≡ true → room_in new < room_in old
  pub same : moved ≡ false → fails ⊎ (new ≡ old)

-- the first so many clients have made all their calls
abbrev pub HaveAllCalled : (fails : Type 0) → Scenario → List (List Entry) → ℕ → Type 0
HaveAllCalled fails t trails count = (number : ℕ) (client : Client) → number < count
    → slice_get t.clients number ≡ Some client → HasAllCalled fails trails number client

module _ {D : Type 0} (g : Ghosts D) where
  -- nothing is left to do at a site, or its trail is spent; so at the first so many sites
  abbrev pub IsDoneAt : Scenario → BenchValue D → ℕ → Type 0
  IsDoneAt t bench i = IsSpentAt (trails_of bench.cells) (site_at i)
      ⊎ IsIdleAt (IsToldAt g i bench) t (trails_of bench.cells) (site_at i)

  abbrev pub AreDone : Scenario → BenchValue D → ℕ → Type 0
  AreDone t bench count = (i : ℕ) → i < count → IsDoneAt t bench i

  -- What a client's turn comes to at a bench of a scenario: all sites work as they did; trails go on; and where no call was
  -- answered, the client has made all its calls.
  pub record TurnsOne (fails : Type 0) (t : Scenario) (number : ℕ) (old new : BenchValue D) (answer : Result Bool NoMemory)
      : Type 0 where
    pub works : (pumps : List PumpValue) → CanWork g t old pumps → CanWork g t new pumps
    pub moves : IfOk answer (Moves fails (trails_of old.cells) (trails_of new.cells))
    pub called : answer ≡ Ok false → (client : Client) → slice_get t.clients number ≡ Some client
        → HasAllCalled fails (trails_of new.cells) number client

  -- What a pump comes to there: the sites work, the pumped one with this pump; trails go on; and where nothing was done,
  -- nothing is left to do at the site.
  pub record PumpsOne (t : Scenario) (i : ℕ) (old new : BenchValue D) (pumped : List PumpValue)
      (answer : Result Bool NoMemory) : Type 0 where
    pub works : OnOk answer (CanWork g t new pumped)
    pub moves : IfOk answer (Moves ⊥ (trails_of old.cells) (trails_of new.cells))
    pub done : answer ≡ Ok false → IsDoneAt t new i
