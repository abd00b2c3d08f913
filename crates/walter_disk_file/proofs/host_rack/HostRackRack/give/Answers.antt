use Rattle.std.proofs.Common.{ℕ}
use Rattle.std.proofs.lemmas.List.Elements.{All-push}
use Rattle.walter_disk_file.specs.HostDisks.{FailsOnlyIfArmed}
use Rattle.walter_disk_file.specs.declared.host_disk.HostDisk.{HostDisk}
use Rattle.walter_disk_file.proofs.host_rack.HostRackRack.give.Goals as goal

abbrev Fails : ℕ × HostDisk → Type 0
Fails it = FailsOnlyIfArmed it.1

pub invariant_of-self : goal.invariant_of-self
invariant_of-self g c = (
  rw c.in-Ok.ensures.items (All-push Fails _ _ c.self.invariant.0 c.unarmed_never_failed.ensures),
  rw c.of-self-inside.ensures (All-push Fails _ _ c.self.invariant.1 c.unarmed_never_failed.ensures),
)

pub invariant_of-self-in-Err : goal.invariant_of-self-in-Err
invariant_of-self-in-Err g c = (
  rw c.in-Err.ensures.items c.self.invariant.0,
  rw c.of-self-inside.ensures (All-push Fails _ _ c.self.invariant.1 c.unarmed_never_failed.ensures),
)
