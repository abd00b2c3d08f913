-- What is known of a rack before a run and after it, and why no site can begin with a disk.
use Rattle.std.specs.Prelude.{◌≡◌, ◌≢◌, ◌+◌, ◌<◌, ◌≤◌, ℕ, List, [], ◌∷◌, ◌++◌, length, All, Contains, Option, None, Some, IfSome, IsSome}
use Rattle.walter_cell.specs.Builds.{calls_once_begun}
use Rattle.walter_checkpoint.specs.Areas.{Shape, IsForeign}
use Rattle.walter_checkpoint.specs.Faults.{IsDamagedBook}
use Rattle.walter_cluster.specs.Benches.{shape_of}
use Rattle.walter_disk.specs.Disks.{DiskState}
use Rattle.walter_disk.specs.declared.disk.Disk.{Ghosts}
use Rattle.walter_disk.specs.declared.rack.Rack.{Ghosts as RackGhosts}
use Rattle.walter_engine.specs.Begins.{MayHaveBegun, HasNoRecord}
use Rattle.walter_engine.specs.Contents.{HasBook}
use Rattle.walter_scenario.specs.declared.scenario.Scenario.{Scenario}
use Rattle.walter_cli.specs.declared.ended.JournalCause.{JournalCause}
use Rattle.walter_cli.specs.declared.ended.JournalCause.TheVariants.{Foreign, Damaged, Used}

-- what is known of a rack at a moment
pub record RackAt (D : Type 0) : Type 0 where
  -- the disk that is taken for a folder and a site, where it tells them
  pub disks : Option (Option (List ℕ) → ℕ → D)
  -- the disks that it was given back, each with its site, where it tells them
  pub given : Option (List (ℕ × D))
  -- those that it was handed, whether it kept them or lost them
  pub handed : Option (List (ℕ × D))
  -- how many disks were taken
  pub taken : ℕ
  -- how often a call of it has failed
  pub faults : ℕ
  -- how many of the following calls of it don't fail
  pub unfailing : ℕ

-- what is known of this rack
abbrev pub rack_at : {R D : Type 0} (r : RackGhosts R D) → R → RackAt D
rack_at r rack = record {
  disks = r.disks rack;
  given = r.given rack;
  handed = r.handed rack;
  taken = r.taken rack;
  faults = r.faults rack;
  unfailing = r.unfailing rack;
}

-- a property of a disk: of what is known of it, and of what a crash leaves
abbrev pub OfADisk : Type 1
OfADisk = DiskState → (List ℕ → Type 0) → Type 0

-- what is known of a rack by a call of the program; of what it was given and handed it is so where the rack tells that.
-- What is handed back it keeps, and then it is given back, or loses by a fault
pub record Racked : Type 1 where
  -- the bytes that the disk of each site has before the run, where the rack tells its disks and the disk what it holds
  pub bytes : ℕ → Option (List ℕ)
  -- how many calls of the disk of each site are made once a site has begun over it, with a journal of this shape and of so
  -- many areas, where the rack tells its disks
  pub calls_begun : Shape → (areas : ℕ) → ℕ → Option ℕ
  -- each disk that was handed back, of some site, is so
  pub each : (ℕ → OfADisk) → Type 0
  -- a disk was handed back as this site's, and is so
  pub one : ℕ → OfADisk → Type 0
  -- so many disks were handed back, those of the first sites, in order; each is so
  pub handed : ℕ → (ℕ → OfADisk) → Type 0
  -- a disk was given back as this site's; or none was
  pub has : ℕ → Type 0
  pub lacks : ℕ → Type 0
  -- so many disks were given back, those of the first sites, in order; each is so
  pub all : ℕ → (ℕ → OfADisk) → Type 0
  -- so many disks were taken
  pub took : ℕ → Type 0
  -- as many disks were handed back as were taken, and as many given back, but for one at most for each time that the
  -- rack failed
  pub balanced : Type 0
  -- the rack failed
  pub failed : Type 0
  -- so many calls of it don't fail
  pub unfailing : ℕ → Type 0

-- the bytes of the disk that is taken for a site, where they are told
abbrev pub bytes_of : {D : Type 0} (g : Ghosts D) → Option (Option (List ℕ) → ℕ → D) → ℕ → Option (List ℕ)
bytes_of g None i = None
bytes_of g (Some take) i = (g.known (take None i)).reads

-- how many calls of the disk that is taken for a site are made once the site has begun, where they are told
abbrev pub calls_begun_of : {D : Type 0} (g : Ghosts D) → Option (Option (List ℕ) → ℕ → D) → Shape → ℕ → ℕ → Option ℕ
calls_begun_of g None shape areas i = None
calls_begun_of g (Some take) shape areas i = Some (calls_once_begun g shape areas (take None i))

-- what came behind the elements of a list between two moments is so, where they are told
abbrev pub IsMore : {X : Type 0} → (before after : Option (List X)) → (List X → Type 0) → Type 0
IsMore {X = X} before after P = IfSome before (λ old. (more : List X) × (after ≡ Some (old ++ more)) × P more)

-- the disks that a rack was given between two moments, and those that it was handed
abbrev pub IsGiven : {D : Type 0} → (before after : RackAt D) → (List (ℕ × D) → Type 0) → Type 0
IsGiven before after = IsMore before.given after.given

abbrev pub IsHanded : {D : Type 0} → (before after : RackAt D) → (List (ℕ × D) → Type 0) → Type 0
IsHanded before after = IsMore before.handed after.handed

-- the disks, each with its number from this one on
abbrev pub numbered : {D : Type 0} → ℕ → List D → List (ℕ × D)
numbered i [] = []
numbered i (disk ∷ disks) = (i, disk) ∷ numbered (i + 1) disks

-- each is so, by its site
abbrev pub AreSo : {D : Type 0} (g : Ghosts D) → (ℕ → OfADisk) → List (ℕ × D) → Type 0
AreSo g P disks = All (λ it. P it.0 (g.known it.1) (g.may_leave it.1)) disks

-- these are so many disks, those of the first sites, in order; each is so
abbrev pub AreFirst : {D : Type 0} (g : Ghosts D) → ℕ → (ℕ → OfADisk) → List (ℕ × D) → Type 0
AreFirst {D = D} g n P more = (disks : List D) × (length disks ≡ n) × (more ≡ numbered 0 disks) × AreSo g P more

-- as many disks were handed back as were taken
abbrev pub AreHandedBack : {D : Type 0} → (before after : RackAt D) → Type 0
AreHandedBack before after = IfSome before.handed (λ old. IfSome after.handed (λ new.
    length old + after.taken ≡ length new + before.taken))

-- as many were given back, but for one at most for each fault of the rack
abbrev pub AreGivenBack : {D : Type 0} → (before after : RackAt D) → Type 0
AreGivenBack before after = IfSome before.given (λ old. IfSome after.given (λ new.
    length old + after.taken + before.faults ≤ length new + before.taken + after.faults))

-- by what is known of the rack before the call and after it
abbrev pub racked : {D : Type 0} (g : Ghosts D) → (before after : RackAt D) → Racked
racked {D = D} g before after = record {
  bytes = λ i. bytes_of g before.disks i;
  calls_begun = calls_begun_of g before.disks;
  each = λ P. IsHanded before after (AreSo g P);
  one = λ i P. IsHanded before after (λ more.
      (disk : D) × Contains more (i, disk) × P (g.known disk) (g.may_leave disk));
  handed = λ n P. IsHanded before after (AreFirst g n P);
  has = λ i. IsGiven before after (λ more. (disk : D) × Contains more (i, disk));
  lacks = λ i. IsGiven before after (λ more. (disk : D) → Contains more (i, disk) → ⊥);
  all = λ n P. IsGiven before after (AreFirst g n P);
  took = λ n. after.taken ≡ before.taken + n;
  balanced = AreHandedBack before after × AreGivenBack before after;
  failed = before.faults < after.faults;
  unfailing = λ calls. calls ≤ before.unfailing;
}

-- the rack tells the disk of a site, and this what it holds
abbrev pub IsTold : Racked → ℕ → Type 0
IsTold rack i = IsSome (rack.bytes i)

-- so it is of the first sites, so many
abbrev pub AreAllTold : Racked → ℕ → Type 0
AreAllTold rack n = (i : ℕ) → i < n → IsTold rack i

-- the disk of a site has bytes of which it is so, where they are told
abbrev pub Holds : Racked → ℕ → (List ℕ → Type 0) → Type 0
Holds rack i P = IfSome (rack.bytes i) P

-- the disk has no arm, where it tells its arms
abbrev pub IsUnarmed : OfADisk
IsUnarmed known images = IfSome known.arms (λ arms. arms ≡ [])

-- a call has failed on it
abbrev pub HasFailed : OfADisk
HasFailed known images = 0 < known.faults

-- no call has failed on it, where it is the disk of a site before this one
abbrev pub IsFaultlessBefore : ℕ → ℕ → OfADisk
IsFaultlessBefore site i known images = i < site → known.faults ≡ 0

-- the disk of this site was to be taken, behind those of the sites before it, and the rack failed
pub record FailsToTake (rack : Racked) (site : ℕ) : Type 0 where
  pub failed : rack.failed
  pub before : rack.took site
  pub lacks : rack.lacks site

-- The disks of all sites were taken, so many, and that of this site failed in its first loading. Those of the sites
-- before it did not, and have no record, where that is told.
pub record FailsToLoad (rack : Racked) (s : Scenario) (site : ℕ) : Type 0 where
  pub all : rack.took s.catalog.sites
  pub failed : rack.one site HasFailed
  pub before : rack.each (IsFaultlessBefore site)
  pub no_record : (i : ℕ) → i < site → Holds rack i (HasNoRecord (shape_of s))

-- the disk of this site is the first that was not given back, since the rack failed
pub record FailsToGive (rack : Racked) (site : ℕ) : Type 0 where
  pub failed : rack.failed
  pub lacks : rack.lacks site
  pub before : (i : ℕ) → i < site → rack.has i

-- no disk was taken, and none handed back
abbrev pub IsUntaken : Racked → Type 0
IsUntaken rack = rack.took 0 × rack.each (λ i known images. ⊥)

-- where no run of a scenario began, each disk that was handed back has no arm, and a crash leaves on it what it held;
-- where it held no record, at most the first bytes of a journal, or the first epoch
pub record IsUntouched (rack : Racked) (s : Scenario) : Type 0 where
  pub unarmed : rack.each (λ i. IsUnarmed)
  pub kept : rack.each (λ i known images. Holds rack i (λ bytes.
      (image : List ℕ) → images image → MayHaveBegun (shape_of s) s.areas bytes image))

-- why no new site can begin with these bytes, and at which place that stands: they are no journal, or a damaged one, or
-- one with records, behind its header
abbrev pub HasCause : Shape → JournalCause → ℕ → List ℕ → Type 0
HasCause shape Foreign place bytes = (place ≡ 0) × IsForeign shape.capacity shape.sites bytes × (bytes ≢ [])
HasCause shape (Damaged claimed) place bytes = IsDamagedBook shape.capacity shape.sites bytes place claimed
HasCause shape Used place bytes =
    (place ≡ 8) × ((bodies : List (List ℕ)) × HasBook shape bytes bodies × (bodies ≢ []))
