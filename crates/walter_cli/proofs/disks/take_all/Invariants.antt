use Rattle.std.proofs.Common.{◌≡◌, ◌≤◌, length, vec_capacity}
use Rattle.walter_cli.specs.Disks.{AreTaken}
use Rattle.walter_cli.specs.Racks.{rack_at}
use Rattle.walter_cli.proofs.disks.take_all.Given as goal

abbrev pub invariant-loop-site : goal.invariant-loop-site
invariant-loop-site g l = record {
  taken : AreTaken g.R.D.Disk
      (rack_at g.R.Rack l.fn.rack)
      (rack_at g.R.Rack l.rack)
      l.disks.items;
  folder : g.R.Rack.folder l.rack ≡ g.R.Rack.folder l.fn.rack;
  long : length l.disks.items ≡ l.site;
  room : l.sites ≤ vec_capacity l.disks;
}
