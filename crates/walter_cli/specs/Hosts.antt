-- What a call on a host promises: over disks in memory what a user may rest on, and over the files of a folder what a
-- call promises over any rack.
use Rattle.std.specs.Prelude.{◌≡◌, ◌⊎◌, ℕ, List, Option, None, Some, map, String, string_bytes}
use Rattle.std.specs.Global.{Global}
use Rattle.walter_disk_file.specs.HostRacks.{RackState, disks_of, fresh_rack, unfailing_of}
use Rattle.walter_disk_file.specs.contracts.host_disk.HostDiskDisk.TheImpl.{ghosts as disk_ghosts}
use Rattle.walter_disk_file.specs.declared.host_disk.HostDisk.{HostDisk}
use Rattle.walter_disk_memory.specs.MemoryRacks.{RackState as MemoryState}
use Rattle.walter_words.specs.Words.{NamesFolder}
use Rattle.walter_cli.specs.Assurance.{Assures, in_memory}
use Rattle.walter_cli.specs.Audits.{AuditPromise}
use Rattle.walter_cli.specs.Headline.{Outside, Promise}
use Rattle.walter_cli.specs.Racks.{RackAt, Racked, racked}
use Rattle.walter_cli.specs.Words.{AskForAudit}
use Rattle.walter_cli.specs.declared.ended.Ended.{Ended}
use Rattle.walter_cli.specs.declared.host.UsedRack.{UsedRack}
use Rattle.walter_cli.specs.declared.host.UsedRack.TheVariants.{Memory, Folder}

-- the words name this folder for the disks, or none
abbrev pub Name : Option (List ℕ) → List (String Global) → Type 0
Name folder words = NamesFolder folder (map string_bytes words)

-- what is known of a rack over the files of a folder
abbrev pub on_host : RackState → RackAt HostDisk
on_host rack = record {
  disks = disks_of rack;
  given = Some rack.given;
  handed = Some rack.handed;
  taken = rack.taken;
  faults = rack.faults;
  unfailing = unfailing_of rack;
}

-- and by one that was made for a call
abbrev pub in_folder : List ℕ → RackState → Racked
in_folder folder rack = racked disk_ghosts (on_host (fresh_rack (Some folder) 0)) (on_host rack)

-- what the words ask for is promised: an audit, or what isn't one
abbrev pub EndsInMemory : List (String Global) → MemoryState → (before after : Outside) → Ended → Type 0
EndsInMemory words rack before after ended =
    (¬ AskForAudit words → Assures words (in_memory rack) before after ended)
    × (AskForAudit words → AuditPromise (in_memory rack) before after ended)

abbrev pub EndsInFolder : List ℕ → List (String Global) → RackState → (before after : Outside) → Ended → Type 0
EndsInFolder folder words rack before after ended =
    (¬ AskForAudit words → Promise words (in_folder folder rack) before after ended)
    × (AskForAudit words → AuditPromise (in_folder folder rack) before after ended)

-- in memory where the words name no folder, or where memory is wanting before they are read; else over the files of the
-- folder that they name, which is the rack's at the end too
abbrev pub EndsOnHost : {A X : Type 0} → List (String Global) → UsedRack A X → (before after : Outside) → Ended
    → Type 0
EndsOnHost words (Memory rack) before after ended =
    EndsInMemory words rack before after ended × (Name None words ⊎ (ended.status ≡ 5))
EndsOnHost words (Folder rack) before after ended =
    (folder : List ℕ) × Name (Some folder) words × (rack.folder ≡ Some folder)
    × EndsInFolder folder words rack before after ended
