-- What each fault of a load says of the disk (docs/FORMATS.md, "Journal").
use Rattle.std.specs.Prelude.{◌≡◌, ◌<◌, ℕ, List, IfSome}
use Rattle.walter_base.specs.declared.format.Format.{Format}
use Rattle.walter_disk.specs.Disks.{DiskState}
use Rattle.walter_disk.specs.Images.{IsImage}
use Rattle.walter_journal.specs.Layout.{IsForeign, IsDamaged, IsDamagedBehind}
use Rattle.walter_journal.specs.declared.fault.JournalFault.{JournalFault}
use Rattle.walter_journal.specs.declared.fault.JournalFault.TheVariants.{Failed, Foreign, Damaged, NoMemory}

-- what a fault says of the bytes that were read
abbrev pub IsWrong : List ℕ → JournalFault → Type 0
IsWrong bytes Failed = ⊥
IsWrong bytes Foreign = IsForeign bytes
IsWrong bytes (Damaged at length) = (format : Format) × IsDamaged format bytes at length
IsWrong bytes NoMemory = Unit {0}

-- what a fault says of bytes that were read behind others in front
abbrev pub IsWrongBehind : List ℕ → List ℕ → JournalFault → Type 0
IsWrongBehind front bytes Failed = ⊥
IsWrongBehind front bytes Foreign = ⊥
IsWrongBehind front bytes (Damaged at length) = IsDamagedBehind front bytes at length
IsWrongBehind front bytes NoMemory = Unit {0}

-- a disk that isn't new was found with such bytes, which a crash might have left
pub record Finds (P : List ℕ → Type 0) (images : List ℕ → Type 0) (old new : DiskState) : Type 0 where
  pub faultless : new.faults ≡ old.faults
  pub not_new : 0 < old.size
  pub image : IsImage new.reads images
  pub are : IfSome new.reads P

-- why a load failed, by the disk as it was and as it is
abbrev pub HasCause : JournalFault → (images : List ℕ → Type 0) (old new : DiskState) → Type 0
HasCause Failed images old new = old.faults < new.faults
HasCause Foreign images old new = Finds IsForeign images old new
HasCause (Damaged at length) images old new =
    Finds (λ bytes. (format : Format) × IsDamaged format bytes at length) images old new
HasCause NoMemory images old new = new.faults ≡ old.faults

-- why a call on the disk failed that judges no bytes
abbrev pub IsDiskFault : (old new : DiskState) → JournalFault → Type 0
IsDiskFault old new Failed = old.faults < new.faults
IsDiskFault old new Foreign = ⊥
IsDiskFault old new (Damaged at length) = ⊥
IsDiskFault old new NoMemory = new.faults ≡ old.faults
