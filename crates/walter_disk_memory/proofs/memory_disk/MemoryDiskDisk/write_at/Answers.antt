use Rattle.walter_disk_memory.specs.MemoryDisks.{content_of}
use Rattle.walter_disk_memory.proofs.Moments.{either, replayed_more, write_follows, failed_write_follows}
use Rattle.walter_disk_memory.proofs.memory_disk.MemoryDiskDisk.write_at.Goals as goal

pub returns-clause-crash : goal.returns-clause-crash
returns-clause-crash c =
    let content = content_of c.args.self.now in
    either c.write_bytes.result c.write_bytes.ensures.ok c.write_bytes.ensures.err
    (λ is. rw (is, replayed_more) (write_follows content c.args.at c.args.from.now))
    (λ is. rw (is, replayed_more) (failed_write_follows content c.args.at c.args.from.now))
