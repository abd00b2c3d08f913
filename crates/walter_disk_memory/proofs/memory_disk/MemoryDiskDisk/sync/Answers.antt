use Rattle.walter_disk_memory.specs.ImageLaws.{always_sound}
use Rattle.walter_disk_memory.specs.MemoryDisks.{content_of}
use Rattle.walter_disk_memory.proofs.Moments.{either, on_ok, replayed_more, sync_narrows}
use Rattle.walter_disk_memory.proofs.memory_disk.MemoryDiskDisk.sync.Goals as goal

pub returns-clause-durable : goal.returns-clause-durable
returns-clause-durable c = on_ok c.sync_bytes.result c.sync_bytes.ensures.ok (λ is. rw (is, replayed_more) (λ image same. same))

pub returns-clause-crash : goal.returns-clause-crash
returns-clause-crash c =
    let disk = c.args.self.now in
    either c.sync_bytes.result c.sync_bytes.ensures.ok c.sync_bytes.ensures.err
    (λ is. rw (is, replayed_more) (sync_narrows (content_of disk) (always_sound disk.first disk.calls))) (λ is. rw is (λ image left. left))
