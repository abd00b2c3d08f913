-- What is read of the disks of all sites, before an audit.
use Rattle.std.specs.Prelude.{◌≡◌, ◌<◌, ◌≤◌, ℕ, List, length, slice_get, Some, IfSome, false, is_some}
use Rattle.walter_audit.specs.Contents.{Content}
use Rattle.walter_audit.specs.Reading.{held}
use Rattle.walter_audit.specs.declared.content.Content.{Content as Kept}
use Rattle.walter_base.specs.Sizes.{most_in}
use Rattle.walter_checkpoint.specs.Areas.{shape_by, HasContent, IsForeign}
use Rattle.walter_checkpoint.specs.Faults.{IsDamagedBook}
use Rattle.walter_disk.specs.declared.disk.Disk.{Ghosts}
use Rattle.walter_disk.specs.Images.{Narrows}
use Rattle.walter_journal.specs.declared.fault.JournalFault.{JournalFault}
use Rattle.walter_journal.specs.declared.fault.JournalFault.TheVariants.{Failed, Foreign, Damaged, NoMemory}
use Rattle.walter_inspect.specs.declared.inspecting.Unread.{Unread}

-- the bytes are a book with these bodies, whose header names this format, which has places for so many sites
pub record IsContentOf (capacity sites : ℕ) (bytes : List ℕ) (content : Content) : Type 0 where
  pub places : sites ≤ most_in content.header
  pub book : HasContent (shape_by capacity sites content.header) bytes content.bodies

-- A disk was only read: it has the arms that it had, and a crash leaves what it left before. It reads as it did, or a call
-- on it has failed, and it has not settled since.
pub record IsOnlyRead {D : Type 0} (g : Ghosts D) (old new : D) : Type 0 where
  pub arms : (g.known new).arms ≡ (g.known old).arms
  pub tells : is_some (g.known new).reads ≡ is_some (g.known old).reads
  pub crash : Narrows (g.may_leave old) (g.may_leave new)
  pub reads : (g.known new).broken ≡ false → (g.known new).reads ≡ (g.known old).reads

-- its journal holds this, where it tells its bytes, and no call on it has failed
pub record IsReadAs {D : Type 0} (g : Ghosts D) (capacity sites : ℕ) (old new : D) (content : Content) : Type 0 where
  pub whole : (g.known new).broken ≡ false
  pub faultless : (g.known new).faults ≡ (g.known old).faults
  pub holds : IfSome (g.known old).reads (λ bytes. IsContentOf capacity sites bytes content)

abbrev pub CanBeRead : {D : Type 0} (g : Ghosts D) (capacity sites : ℕ) (old new : D) → Type 0
CanBeRead g capacity sites old new = (content : Content) × IsReadAs g capacity sites old new content

-- no call on it has failed, and of its bytes it is so, where it tells them
pub record Finds {D : Type 0} (g : Ghosts D) (old new : D) (P : List ℕ → Type 0) : Type 0 where
  pub faultless : (g.known new).faults ≡ (g.known old).faults
  pub are : IfSome (g.known old).reads P

-- why it can't be read: a call on it failed; it has no journal, or a damaged one, where it tells its bytes; or memory ran
-- out
abbrev pub IsUnread : {D : Type 0} (g : Ghosts D) (capacity sites : ℕ) (old new : D) → JournalFault → Type 0
IsUnread g capacity sites old new Failed = (g.known old).faults < (g.known new).faults
IsUnread g capacity sites old new Foreign = Finds g old new (IsForeign capacity sites)
IsUnread g capacity sites old new (Damaged at claimed) =
    Finds g old new (λ bytes. IsDamagedBook capacity sites bytes at claimed)
IsUnread g capacity sites old new NoMemory = (g.known new).faults ≡ (g.known old).faults

-- of a disk as it was, and as it is, it is so
abbrev pub IsSoAt : {D : Type 0} → (old new : List D) → ℕ → (D → D → Type 0) → Type 0
IsSoAt {D = D} old new i P =
    (disk disk' : D) → slice_get old i ≡ Some disk → slice_get new i ≡ Some disk' → P disk disk'

-- as many disks, in order, and each was only read
pub record AreOnlyRead {D : Type 0} (g : Ghosts D) (old new : List D) : Type 0 where
  pub many : length new ≡ length old
  pub each : (i : ℕ) → IsSoAt old new i (IsOnlyRead g)

-- the journal of each site holds the content in its place
pub record AreAllRead {D : Type 0} (g : Ghosts D) (capacity sites : ℕ) (old new : List D) (contents : List Kept)
    : Type 0 where
  pub many : length contents ≡ length old
  pub each : (i : ℕ) (content : Kept) → slice_get contents i ≡ Some content
      → IsSoAt old new i (λ disk disk'. IsReadAs g capacity sites disk disk' (held content))

-- the journal of this site can't be read, for this reason; those before it can; and behind it no disk was looked at
pub record IsFirstUnread {D : Type 0} (g : Ghosts D) (capacity sites : ℕ) (old new : List D) (unread : Unread)
    : Type 0 where
  pub within : unread.site < length old
  pub why : IsSoAt old new unread.site (λ disk disk'. IsUnread g capacity sites disk disk' unread.why)
  pub before : (i : ℕ) → i < unread.site → IsSoAt old new i (CanBeRead g capacity sites)
  pub behind : (i : ℕ) → unread.site < i → IsSoAt old new i (λ disk disk'. disk' ≡ disk)
