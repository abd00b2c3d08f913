use Rattle.walter_disk_memory.specs.ImageLaws.{always_sound, settled_left}
use Rattle.walter_disk_memory.specs.MemoryDisks.{content_of}
use Rattle.walter_disk_memory.specs.Stops.{choice_made}
use Rattle.walter_disk_memory.proofs.Moments.{replayed_more, settle_narrows}
use Rattle.walter_disk_memory.proofs.memory_disk.MemoryDiskDisk.settle.Goals as goal

pub returns-clause-image : goal.returns-clause-image
returns-clause-image c =
    let disk = c.args.self.now in
    rw (c.settle_bytes.ensures, replayed_more) (settled_left (choice_made disk.stops) (content_of disk) (always_sound disk.first disk.calls))

pub returns-clause-durable : goal.returns-clause-durable
returns-clause-durable c = rw (c.settle_bytes.ensures, replayed_more) (λ image is. is)

pub returns-clause-crash : goal.returns-clause-crash
returns-clause-crash c =
    let disk = c.args.self.now in
    rw (c.settle_bytes.ensures, replayed_more) (settle_narrows (choice_made disk.stops) (content_of disk) (always_sound disk.first disk.calls))
