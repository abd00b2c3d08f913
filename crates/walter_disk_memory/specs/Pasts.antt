-- The past of a disk or of a rack.
use Rattle.std.specs.Prelude.{[], ◌∷◌, ◌++◌}
use Rattle.walter_disk_memory.specs.declared.event.Event.{Event}
use Rattle.walter_disk_memory.specs.declared.event.Event.TheVariants as event
use Rattle.walter_disk_memory.specs.declared.past.Past.{Past}
use Rattle.walter_disk_memory.specs.Contents.{Write, FailedWrite, Sync, Settle}

-- with one call, or one disk, more than before
abbrev pub past_of : Event → Past
past_of event.Begin = record { calls = []; disks = [] }
past_of (event.Write past at from) = record past.now { calls = past.now.calls ++ Write at from.now ∷ [] }
past_of (event.FailedWrite past at from) = record past.now { calls = past.now.calls ++ FailedWrite at from.now ∷ [] }
past_of (event.Sync past) = record past.now { calls = past.now.calls ++ Sync ∷ [] }
past_of (event.Settle past choice) = record past.now { calls = past.now.calls ++ Settle choice ∷ [] }
past_of (event.Hand past site disk) = record past.now { disks = past.now.disks ++ (site, disk.now) ∷ [] }
