-- The disks that a rack was handed.
use Rattle.std.specs.Prelude.{[], ◌∷◌, ◌++◌}
use Rattle.walter_disk_file.specs.declared.handed_disks.HandedDisks.{HandedDisks}
use Rattle.walter_disk_file.specs.declared.handed_disks.Handover.{Handover}
use Rattle.walter_disk_file.specs.declared.handed_disks.Handover.TheVariants.{Begin, Hand}

-- with one more than before
abbrev pub handed_after : Handover → HandedDisks
handed_after Begin = record { disks = [] }
handed_after (Hand handed site disk) = record handed.now { disks = handed.now.disks ++ (site, disk.now) ∷ [] }
