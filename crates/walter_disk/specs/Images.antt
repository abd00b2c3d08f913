-- What a crash may leave of a disk: its images. Between two syncs each range that was written, and what lies past the
-- old end, may hold any bytes, and the size may be the old one or the new one; other bytes stay.
use Rattle.std.specs.Prelude.{◌≡◌, ◌⊎◌, ◌+◌, ◌≤◌, ℕ, max, List, length, take, drop, Option, Some, None}

-- the new image is the old one after a write of so many bytes at a place that a crash may have cut short
pub record Torn (at count : ℕ) (old new : List ℕ) : Type 0 where
  pub size : (length new ≡ length old) ⊎ (length new ≡ max (length old) (at + count))
  pub before : take at new ≡ take at old
  pub behind : drop (at + count) new ≡ drop (at + count) old

-- each image now is an earlier one after a step
abbrev pub Follows : (List ℕ → List ℕ → Type 0) → (old new : List ℕ → Type 0) → Type 0
Follows step old new = (image : List ℕ) → new image → (from : List ℕ) × old from × step from image

-- each image now was one before
abbrev pub Narrows : (old new : List ℕ → Type 0) → Type 0
Narrows old new = (image : List ℕ) → new image → old image

-- a crash leaves these bytes and nothing else
abbrev pub Only : List ℕ → (List ℕ → Type 0) → Type 0
Only bytes images = (image : List ℕ) → images image → image ≡ bytes

-- a crash leaves just what a read gives, where the disk tells it
abbrev pub IsDurable : Option (List ℕ) → (List ℕ → Type 0) → Type 0
IsDurable None images = Unit {0}
IsDurable (Some bytes) images = Only bytes images

-- what a read gives is an image, where the disk tells it
abbrev pub IsImage : Option (List ℕ) → (List ℕ → Type 0) → Type 0
IsImage None images = Unit {0}
IsImage (Some bytes) images = images bytes

-- Time goes on: a crash since a moment might have left what it might have left before, or what it may leave now.
pub record Elapses (before now : ℕ) (past since : ℕ → List ℕ → Type 0) (may_leave : List ℕ → Type 0) : Type 0 where
  pub later : before ≤ now
  pub nothing_else : (t : ℕ) (image : List ℕ) → t ≤ before → since t image → past t image ⊎ may_leave image
  pub keeps : (t : ℕ) (image : List ℕ) → t ≤ before → past t image → since t image

-- a crash at each moment from the old disk's to the new one's leaves an image of which P holds
pub record LeavesOnly {D : Type 0} (moment : D → ℕ) (left_since : D → ℕ → List ℕ → Type 0) (old new : D) (P : List ℕ → Type 0) : Type 0 where
  pub later : moment old ≤ moment new
  pub each : (image : List ℕ) → left_since new (moment old) image → P image
  -- for what began earlier
  pub before : (t : ℕ) (image : List ℕ) → t ≤ moment old → left_since new t image → left_since old t image ⊎ P image
