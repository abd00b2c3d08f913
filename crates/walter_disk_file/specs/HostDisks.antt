-- A disk in memory or over a file, as its callers see it: each member of the trait by the two cases.
use Rattle.std.specs.Prelude.{◌≡◌, ◌≤◌, ℕ, false, List, [], length, IfSome, refl}
use Rattle.walter_disk.specs.Disks.{DiskState}
use Rattle.walter_disk.specs.Images.{IsImage}
use Rattle.walter_disk_memory.specs.ImageLaws.{always_sound, left_now, left_only_now}
use Rattle.walter_disk_memory.specs.MemoryDisks as memory
use Rattle.walter_disk_file.specs.FileDisks as file
use Rattle.walter_disk_file.specs.declared.host_disk.HostDisk.{HostDisk}
use Rattle.walter_disk_file.specs.declared.host_disk.HostDisk.TheVariants.{Memory, File}

-- an empty disk in memory
abbrev pub empty_disk : HostDisk
empty_disk = Memory (memory.holding [])

abbrev pub known_of : HostDisk → DiskState
known_of (Memory disk) = memory.known_of disk
known_of (File disk) = file.known_of disk

abbrev pub room_end_of : HostDisk → ℕ
room_end_of (Memory disk) = disk.room_end
room_end_of (File disk) = file.room

abbrev pub room_calls_of : HostDisk → ℕ
room_calls_of (Memory disk) = disk.room_calls
room_calls_of (File disk) = file.room

abbrev pub may_leave_of : HostDisk → List ℕ → Type 0
may_leave_of (Memory disk) = memory.may_leave_of disk
may_leave_of (File disk) = file.may_leave_of disk

abbrev pub moment_of : HostDisk → ℕ
moment_of (Memory disk) = memory.moment_of disk
moment_of (File disk) = file.moment_of disk

abbrev pub device_calls_of : HostDisk → ℕ
device_calls_of (Memory disk) = disk.stops.made
device_calls_of (File disk) = disk.device_calls

abbrev pub left_since_of : HostDisk → ℕ → List ℕ → Type 0
left_since_of (Memory disk) = memory.left_since_of disk
left_since_of (File disk) = file.left_since_of disk

-- The laws of the trait.
pub size_is : (disk : HostDisk) → IfSome (known_of disk).reads (λ bytes. (known_of disk).size ≡ length bytes)
size_is (Memory disk) = refl
size_is (File disk) = tt

pub leaves_what_reads : (disk : HostDisk) → (known_of disk).broken ≡ false → IsImage (known_of disk).reads (may_leave_of disk)
leaves_what_reads (Memory disk) whole = (always_sound disk.first disk.calls).reads
leaves_what_reads (File disk) whole = tt

pub counts_now : (disk : HostDisk) (t : ℕ) (image : List ℕ) → t ≤ moment_of disk → may_leave_of disk image → left_since_of disk t image
counts_now (Memory disk) t image le now = left_now disk.first disk.calls t image le now
counts_now (File disk) t image le now = tt

pub only_now : (disk : HostDisk) (image : List ℕ) → left_since_of disk (moment_of disk) image → may_leave_of disk image
only_now (Memory disk) image left = left_only_now disk.first disk.calls image left
only_now (File disk) image left = tt

-- in memory, without an arm no call of it has failed, and none is to fail
abbrev pub FailsOnlyIfArmed : HostDisk → Type 0
FailsOnlyIfArmed (Memory disk) = memory.FailsOnlyIfArmed disk
FailsOnlyIfArmed (File disk) = Unit {0}
