-- What each fault of a load says of the disk (docs/FORMATS.md, "Two areas").
use Rattle.std.specs.Prelude.{◌≡◌, ◌≢◌, ◌<◌, ◌≤◌, ℕ, List, ◌∷◌, ◌++◌, length, true}
use Rattle.walter_base.specs.declared.format.Format.{Format}
use Rattle.walter_base.specs.Sizes.{most_in}
use Rattle.walter_disk.specs.Disks.{DiskState}
use Rattle.walter_journal.specs.Faults.{Finds}
use Rattle.walter_journal.specs.Layout.{record_of, IsShort}
use Rattle.walter_journal.specs.declared.fault.JournalFault.{JournalFault}
use Rattle.walter_journal.specs.declared.fault.JournalFault.TheVariants.{Failed, Foreign, Damaged, NoMemory}
use Rattle.walter_checkpoint.specs.Areas.{shape_by, IsForeign, IsDamaged, IsAreaDamaged}
use Rattle.walter_checkpoint.specs.Packs.{cut, is_cut, entry_of, HasEntries}

-- no body is spelled so where its zeros are left out
abbrev pub IsNoCut : ℕ → List ℕ → Type 0
IsNoCut sites spelled = (body : List ℕ) → IsShort body → is_cut sites body ≡ true → cut sites body ≢ spelled

-- and no body is spelled so behind this mark
abbrev pub HasNoBody : ℕ → ℕ → List ℕ → Type 0
HasNoBody sites mark spelled = (body : List ℕ) → IsShort body → entry_of sites body ≢ mark ∷ record_of spelled

-- no entry stands at the front of these bytes, with a byte behind it
abbrev pub HasNoEntry : ℕ → List ℕ → Type 0
HasNoEntry sites bytes =
    (body next : List ℕ) → IsShort body → 0 < length next → bytes ≢ entry_of sites body ++ next

-- the bytes are the entries of no bodies, and one byte more
abbrev pub HasNoEntries : ℕ → List ℕ → Type 0
HasNoEntries sites bytes = (bodies : List (List ℕ)) → ¬ HasEntries sites bytes bodies

-- what a fault says of the bytes of an area
abbrev pub IsAreaWrong : ℕ → List ℕ → JournalFault → Type 0
IsAreaWrong sites area Failed = ⊥
IsAreaWrong sites area Foreign = ⊥
IsAreaWrong sites area (Damaged at length) = IsAreaDamaged sites area at length
IsAreaWrong sites area NoMemory = Unit {0}

-- the format that the header names has places for so many sites, and behind it the bytes are damaged at this place
pub record IsDamagedBook (capacity sites : ℕ) (bytes : List ℕ) (at claimed : ℕ) : Type 0 where
  pub header : Format
  pub places : sites ≤ most_in header
  pub damaged : IsDamaged (shape_by capacity sites header) bytes at claimed

-- what a fault says of the bytes that were read
abbrev pub IsWrong : (capacity sites : ℕ) → List ℕ → JournalFault → Type 0
IsWrong capacity sites bytes Failed = ⊥
IsWrong capacity sites bytes Foreign = IsForeign capacity sites bytes
IsWrong capacity sites bytes (Damaged at length) = IsDamagedBook capacity sites bytes at length
IsWrong capacity sites bytes NoMemory = Unit {0}

-- why a load failed, by the disk as it was and as it is
abbrev pub HasCause : (capacity sites : ℕ) → JournalFault → (images : List ℕ → Type 0) (old new : DiskState) → Type 0
HasCause capacity sites Failed images old new = old.faults < new.faults
HasCause capacity sites Foreign images old new = Finds (IsForeign capacity sites) images old new
HasCause capacity sites (Damaged at length) images old new =
    Finds (λ bytes. IsDamagedBook capacity sites bytes at length) images old new
HasCause capacity sites NoMemory images old new = new.faults ≡ old.faults
