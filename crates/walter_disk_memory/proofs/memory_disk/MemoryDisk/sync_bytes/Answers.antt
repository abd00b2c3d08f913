use Rattle.walter_disk_memory.specs.ImageLaws.{always_sound}
use Rattle.walter_disk_memory.proofs.memory_disk.MemoryDisk.sync_bytes.Goals as goal

pub sync-requires : goal.sync-requires
sync-requires c =
    record { sound = rw c.self.invariant.0 (always_sound c.self.inside.first.items c.self.inside.past.calls) }
