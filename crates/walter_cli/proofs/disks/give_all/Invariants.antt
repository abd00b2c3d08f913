use Rattle.std.proofs.Common.{◌≡◌, length}
use Rattle.std.specs.Prelude.{OnOk, IfErr}
use Rattle.walter_cli.specs.Disks.{AreGiven, IsFirstLost}
use Rattle.walter_cli.specs.Racks.{rack_at}
use Rattle.walter_cli.proofs.disks.give_all.Given as goal

abbrev pub invariant-loop-disk : goal.invariant-loop-disk
invariant-loop-disk g l = record {
  given : AreGiven
      (rack_at g.R.Rack l.fn.rack)
      (rack_at g.R.Rack l.rack)
      0 l.yielded;
  folder : g.R.Rack.folder l.rack ≡ g.R.Rack.folder l.fn.rack;
  next : l.next ≡ length l.yielded;
  ok : OnOk l.lost (g.R.Rack.faults l.rack ≡ g.R.Rack.faults l.fn.rack);
  err : IfErr l.lost (IsFirstLost
      (rack_at g.R.Rack l.fn.rack)
      (rack_at g.R.Rack l.rack)
      l.yielded);
}
