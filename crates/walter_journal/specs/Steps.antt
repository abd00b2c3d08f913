-- What the steps of a load and of an append leave of the disk (docs/FORMATS.md, "Journal").
use Rattle.std.specs.Prelude.{◌≡◌, ◌⊎◌, ◌≤◌, ℕ, false, List, IfSome}
use Rattle.walter_base.specs.declared.format.Format.{Format}
use Rattle.walter_disk.specs.Disks.{DiskState}
use Rattle.walter_disk.specs.Images.{IsDurable, IsImage}
use Rattle.walter_journal.specs.Layout.{HasContent, end_behind}

-- the disk has these bodies behind the header of this format, where it tells, and each crash leaves them
pub record IsReady (format : Format) (bodies : List (List ℕ)) (end : ℕ) (images : List ℕ → Type 0)
    (disk : DiskState) : Type 0 where
  pub content : IfSome disk.reads (λ bytes. HasContent format bytes bodies)
  pub durable : IsDurable disk.reads images
  pub whole : disk.broken ≡ false
  pub behind : end ≡ end_behind bodies
  pub within : end ≤ disk.size

-- the disk has the size that it had, or reads what a crash might have left
abbrev pub IsLeft : (images : List ℕ → Type 0) (old new : DiskState) → Type 0
IsLeft images old new = (new.size ≡ old.size) ⊎ IsImage new.reads images
