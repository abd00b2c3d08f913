use Rattle.std.proofs.Common.{◌≡◌, [], refl, sym, subst, arith}
use Rattle.walter_disk_memory.specs.MemoryDisks.{MemoryState}
use Rattle.walter_disk_memory.specs.MemoryRacks.{RackState, rack_of}
use Rattle.walter_disk_memory.specs.contracts.memory_disk.MemoryDiskDisk.TheImpl.{ghosts as disk_ghosts}
use Rattle.walter_disk_memory.specs.contracts.memory_rack.MemoryRackRack.TheImpl.{ghosts as rack_ghosts}
use Rattle.walter_cli.specs.Assurance.{in_memory}
use Rattle.walter_cli.specs.Racks.{RackAt, IsUntaken, rack_at}
use Rattle.walter_cli.specs.Audits.{IsKept}
use Rattle.walter_cli.specs.declared.ended.Fault.TheVariants.{Memory}
use Rattle.walter_cli.proofs.Early.{each_none, untaken_before}
use Rattle.walter_cli.proofs.Giving.{none_balances, one_count}
use Rattle.walter_cli.proofs.Judging.{promise_unread}
use Rattle.walter_cli.proofs.Sure.{assured_early}
use Rattle.walter_cli.proofs.memory.without_memory.Goals as goal

-- what is known of a rack in memory
abbrev at : RackState → RackAt MemoryState
at rack = rack_at rack_ghosts rack

-- a rack of which nothing was asked had its disks back, and no run began on them
new_balanced : (rack : RackState) → rack ≡ rack_of [] 0 → (in_memory rack).balanced
new_balanced rack is =
    subst (λ (r : RackState). (in_memory r).balanced) (sym is)
    (none_balances disk_ghosts (at (rack_of [] 32)) (at (rack_of [] 0)) refl refl refl (omega arith))

new_untaken : (rack : RackState) → rack ≡ rack_of [] 0 → IsUntaken (in_memory rack)
new_untaken rack is =
    subst (λ (r : RackState). IsUntaken (in_memory r)) (sym is)
    (untaken_before disk_ghosts (at (rack_of [] 32)) (at (rack_of [] 0)) refl refl)

new_kept : (rack : RackState) → rack ≡ rack_of [] 0 → (in_memory rack).each (IsKept (in_memory rack))
new_kept rack is =
    subst (λ (r : RackState). (in_memory r).each (IsKept (in_memory r))) (sym is)
    (each_none disk_ghosts (at (rack_of [] 32)) (at (rack_of [] 0)) (IsKept (in_memory (rack_of [] 0))) refl)

new_unfailed : (rack : RackState) → rack ≡ rack_of [] 0 → (in_memory rack).unfailing 32 → ¬ (in_memory rack).failed
new_unfailed rack is =
    subst (λ (r : RackState). (in_memory r).unfailing 32 → ¬ (in_memory r).failed) (sym is) (λ many rose. omega (arith, rose))

pub returns-clause-audit : goal.returns-clause-audit
returns-clause-audit c = λ outside.
    let is = c.new.ensures.rack in
    promise_unread (in_memory c.new.result) outside outside c.early.result c.early.ensures.trails (new_kept _ is) (new_balanced _ is)
    (new_unfailed _ is) (one_count disk_ghosts (at (rack_of [] 32)) (at c.new.result)) Memory c.early.ensures.fault
    c.early.ensures.status refl tt

pub returns-clause-assured : goal.returns-clause-assured
returns-clause-assured c = λ words outside.
    let is = c.new.ensures.rack in
    assured_early words _ outside c.early.result (new_balanced _ is) (new_untaken _ is) c.early.ensures.status
    c.early.ensures.fault c.early.ensures.trails
