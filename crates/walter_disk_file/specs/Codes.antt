-- How the logic stores disks with their sites.
use Rattle.std.specs.Prelude.{◌≡◌, ◌⊎◌, ℕ, Bool, List, [], ◌∷◌, refl}
use Rattle.std.specs.Coded.{Coded, code_by, coded×, coded⊎, coded_ℕ, coded_bool, coded_list}
use Rattle.std.proofs.Common.{inl, inr}
use Rattle.walter_disk_memory.specs.Codes as memory
use Rattle.walter_disk_memory.specs.MemoryDisks.{MemoryState, holding}
use Rattle.walter_disk_file.specs.FileDisks.{FileState}
use Rattle.walter_disk_file.specs.declared.host_disk.HostDisk.{HostDisk}
use Rattle.walter_disk_file.specs.declared.host_disk.HostDisk.TheVariants.{Memory, File}

abbrev file_code : Coded FileState
file_code =
    code_by (ℕ × (Bool × (ℕ × ℕ))) (coded× coded_ℕ (coded× coded_bool (coded× coded_ℕ coded_ℕ)))
    (λ d. (d.size, (d.broken, (d.faults, d.device_calls))))
    (λ p. record { size = p.0; broken = p.1.0; faults = p.1.1.0; device_calls = p.1.1.1 }) (λ _. refl)

-- a disk in memory goes as a list of it alone
abbrev Parts : Type 0
Parts = List (ℕ × MemoryState) ⊎ FileState

abbrev to_parts : HostDisk → Parts
to_parts (Memory disk) = inl ((0, disk) ∷ [])
to_parts (File disk) = inr disk

abbrev from_parts : Parts → HostDisk
from_parts (inl []) = Memory (holding [])
from_parts (inl (it ∷ more)) = Memory it.1
from_parts (inr disk) = File disk

pub from_parts-to_parts : (disk : HostDisk) → from_parts (to_parts disk) ≡ disk
from_parts-to_parts (Memory disk) = refl
from_parts-to_parts (File disk) = refl

abbrev pub disks_code : Coded (List (ℕ × HostDisk))
disks_code = coded_list (coded× coded_ℕ (code_by Parts (coded⊎ memory.disks_code file_code) to_parts from_parts from_parts-to_parts))
