use Rattle.std.proofs.Common.{ℕ, refl, ap, subst}
use Rattle.std.proofs.lemmas.List.Elements.{All-push}
use Rattle.walter_faults.specs.Schedules.{NextFails}
use Rattle.walter_disk_memory.specs.MemoryDisks.{MemoryState, FailsOnlyIfArmed}
use Rattle.walter_disk_memory.specs.MemoryRacks.{RackState}
use Rattle.walter_disk_memory.proofs.memory_rack.MemoryRackRack.give.Goals as goal

abbrev Fails : ℕ × MemoryState → Type 0
Fails it = FailsOnlyIfArmed it.1

pub invariant_of-self : goal.invariant_of-self
invariant_of-self c =
    (c.self.invariant.0, rw c.of-self-inside.ensures (All-push Fails _ _ c.self.invariant.1 c.unarmed_never_failed.ensures))

pub invariant_of-self-in-Ok : goal.invariant_of-self-in-Ok
invariant_of-self-in-Ok c = (
  rw c.in-Ok.ensures.items (All-push Fails _ _ c.self.invariant.0 c.unarmed_never_failed.ensures),
  rw c.of-self-inside.ensures (All-push Fails _ _ c.self.invariant.1 c.unarmed_never_failed.ensures),
)

pub invariant_of-self-in-Err : goal.invariant_of-self-in-Err
invariant_of-self-in-Err c = (
  rw c.in-Err.ensures.items c.self.invariant.0,
  rw c.of-self-inside.ensures (All-push Fails _ _ c.self.invariant.1 c.unarmed_never_failed.ensures),
)

pub returns-then-fails-clause-never : goal.returns-then-fails-clause-never
returns-then-fails-clause-never c unplanned room =
    absurd (unplanned (subst NextFails (ap (λ (rack : RackState). rack.schedule) c.self.view_is) (c.if-fails.ensures.fails.0 refl)))
