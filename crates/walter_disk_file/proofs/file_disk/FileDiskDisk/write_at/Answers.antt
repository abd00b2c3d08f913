use Rattle.std.proofs.Common.{ℕ, List, refl, inl}
use Rattle.walter_disk.specs.Images.{Torn}
use Rattle.walter_disk_file.proofs.file_disk.FileDiskDisk.write_at.Goals as goal

-- a write may be cut short before its first byte
pub cut_at_once : (at count : ℕ) (image : List ℕ) → (from : List ℕ) × Unit {0} × Torn at count from image
cut_at_once at count image = (image, tt, record { size = inl refl; before = refl; behind = refl })

pub returns-in_err-begin_call-clause-crash : goal.returns-in_err-begin_call-clause-crash
returns-in_err-begin_call-clause-crash c image left = cut_at_once _ _ image

pub returns-in_err-judge-clause-crash : goal.returns-in_err-judge-clause-crash
returns-in_err-judge-clause-crash c image left = cut_at_once _ _ image

pub returns-clause-crash : goal.returns-clause-crash
returns-clause-crash c image left = cut_at_once _ _ image
