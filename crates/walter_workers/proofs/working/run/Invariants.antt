use Rattle.walter_cluster.specs.Shared.{origins_of}
use Rattle.walter_workers.proofs.working.run.Given as goal

-- the cells as they are before they are shared
abbrev pub ghosts-share_work : goal.ghosts-share_work
ghosts-share_work g a = record { origins = origins_of g.D.Disk a.scenario.now a.bench.cells }
