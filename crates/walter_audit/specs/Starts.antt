-- Where a site stood: how many commits of each site its records before each place tell (docs/AUDIT.md, "How it is
-- found").
use Rattle.std.specs.Prelude.{◌≡◌, ◌+◌, ◌<◌, ◌≤◌, ℕ, List, take, length, slice_get, Some, false}
use Rattle.walter_base.specs.declared.catalog.Catalog.{Catalog}
use Rattle.walter_base.specs.declared.message.Record.{Record}
use Rattle.walter_base.specs.declared.message.Record.TheVariants.{Own}
use Rattle.walter_base.specs.declared.names.SiteId.{SiteId}
use Rattle.walter_base.specs.Vectors.{entry_at, Covers}
use Rattle.walter_audit.specs.declared.finding.Named.{Named}
use Rattle.walter_audit.specs.Journals.{count, are_counts}

-- the vector has a number for each of so many sites, how many commits of it these records tell
pub record AreCountsOf (sites : ℕ) (i : SiteId) (records : List Record) (vector : List ℕ) : Type 0 where
  pub size : length vector ≡ sites
  pub each : (k : SiteId) → k.0 < sites → entry_at vector k ≡ count i records k

-- at each place those of the records before it, and then those of all
pub record AreFronts (sites : ℕ) (i : SiteId) (records : List Record) (fronts : List (List ℕ)) : Type 0 where
  pub many : length fronts ≡ length records + 1
  pub each : (p : ℕ) (v : List ℕ) → slice_get fronts p ≡ Some v → AreCountsOf sites i (take p records) v

-- each covers those before it
abbrev pub AreRising : List (List ℕ) → Type 0
AreRising fronts = (k m : ℕ) (v w : List ℕ) → k ≤ m → slice_get fronts k ≡ Some v → slice_get fronts m ≡ Some w
    → Covers w v

-- the start is the one at this place, or at one before it
abbrev pub HasMatch : List (List ℕ) → ℕ → List ℕ → Type 0
HasMatch fronts place start = (p : ℕ) × (v : List ℕ) × (p ≤ place) × (slice_get fronts p ≡ Some v)
    × Covers v start × Covers start v

-- an own commit whose start is none of those up to its place
abbrev pub IsUnmatched : List (List ℕ) → Named → Record → Type 0
IsUnmatched fronts at (Own seq tx) = ¬ HasMatch fronts at.index tx.start
IsUnmatched fronts at rec = ⊥

-- an own commit among these records whose start is the counts of no front of those before it
abbrev pub IsUnstartedIn : Catalog → List Record → Named → Record → Type 0
IsUnstartedIn catalog records at (Own seq tx) =
    (p : ℕ) → p ≤ at.index → are_counts catalog at.site (take p records) tx.start ≡ false
IsUnstartedIn catalog records at rec = ⊥
