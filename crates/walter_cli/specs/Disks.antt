-- The disks of all sites, taken from a rack and given back to it.
use Rattle.std.specs.Prelude.{◌≡◌, ◌+◌, ◌<◌, ◌≤◌, ◌++◌, ℕ, Bool, true, false, List, length, slice_get, None, Some, Result, Ok, Err, option_map, IfSome, All, Contains}
use Rattle.walter_disk.specs.Racks.{IsFresh}
use Rattle.walter_disk.specs.declared.disk.Disk.{Ghosts}
use Rattle.walter_cli.specs.Racks.{RackAt, numbered}

-- the first site whose disk is lost, where that of one more is or isn't
abbrev pub lost_after : Result (Unit {0}) ℕ → Bool → ℕ → Result (Unit {0}) ℕ
lost_after lost false site = lost
lost_after (Ok done) true site = Err site
lost_after (Err first) true site = Err first

-- the disks of the first sites were taken, and no others
pub record AreTaken {D : Type 0} (g : Ghosts D) (before after : RackAt D) (disks : List D) : Type 0 where
  pub told : (i : ℕ) (disk : D) → slice_get disks i ≡ Some disk → IfSome before.disks (λ take. disk ≡ take None i)
  pub fresh : (i : ℕ) (disk : D) → slice_get disks i ≡ Some disk → IsFresh (g.known disk) (g.may_leave disk)
  pub same_disks : after.disks ≡ before.disks
  pub given : after.given ≡ before.given
  pub handed : after.handed ≡ before.handed
  pub taken : after.taken ≡ before.taken + length disks
  pub faults : after.faults ≡ before.faults
  pub unfailing : length disks ≤ before.unfailing → before.unfailing ≤ after.unfailing + length disks

-- the disk of this site, one of these, is the first that was not given back
pub record IsFirstLost {D : Type 0} (before after : RackAt D) (disks : List D) (site : ℕ) : Type 0 where
  pub within : site < length disks
  pub rose : before.faults < after.faults
  pub more : List (ℕ × D)
  pub given : after.given ≡ option_map (λ told. told ++ more) before.given
  pub lacks : (disk : D) → Contains more (site, disk) → ⊥
  pub others : (i : ℕ) → i < site → (disk : D) × Contains more (i, disk)

-- these disks were handed back, the first as this site's, and so on, and given back but for one at most for each fault of
-- the rack
pub record AreGiven {D : Type 0} (before after : RackAt D) (first : ℕ) (disks : List D) : Type 0 where
  pub handed : after.handed ≡ option_map (λ told. told ++ numbered first disks) before.handed
  pub more : List (ℕ × D)
  pub given : after.given ≡ option_map (λ told. told ++ more) before.given
  pub those : All (λ it. (i : ℕ) × (it.0 ≡ first + i) × (slice_get disks i ≡ Some it.1)) more
  pub taken : after.taken ≡ before.taken
  pub same_disks : after.disks ≡ before.disks
  pub level : before.faults ≤ after.faults
  pub lost : length disks + before.faults ≤ length more + after.faults
  pub whole : after.faults ≡ before.faults → more ≡ numbered first disks
  pub unfailing : length disks ≤ before.unfailing
      → (after.faults ≡ before.faults) × (before.unfailing ≤ after.unfailing + length disks)
