use Rattle.std.proofs.Common.{◌≡◌, ◌+◌, ℕ, List, [], ◌≤◌, Some, refl, sym, ap, subst, arith}
use Rattle.std.specs.Prelude.{All, String}
use Rattle.std.specs.Global.{Global}
use Rattle.walter_disk_memory.specs.MemoryDisks.{MemoryState, FailsOnlyIfArmed}
use Rattle.walter_disk_memory.specs.MemoryRacks.{RackState, rack_of, unfailing_of}
use Rattle.walter_disk_memory.specs.contracts.memory_disk.MemoryDiskDisk.TheImpl.{ghosts as disk_ghosts}
use Rattle.walter_disk_memory.specs.contracts.memory_rack.MemoryRackRack.TheImpl.{ghosts as rack_ghosts}
use Rattle.walter_checkpoint.specs.Loads.{calls_of_load}
use Rattle.walter_cluster.specs.Benches.{shape_of}
use Rattle.walter_scenario.specs.declared.scenario.Scenario.{Scenario}
use Rattle.walter_cli.specs.Assurance.{Assures, calls_begun_anew, in_memory}
use Rattle.walter_cli.specs.Audits.{AuditPromise}
use Rattle.walter_cli.specs.Headline.{Outside}
use Rattle.walter_cli.specs.declared.ended.Ended.{Ended}
use Rattle.walter_cli.specs.Racks.{RackAt, rack_at, Holds, racked}
use Rattle.walter_cli.proofs.Sure.{assured}
use Rattle.walter_cli.proofs.memory.top_in_memory.Goals as goal

-- what is known of a rack in memory
abbrev at : RackState → RackAt MemoryState
at rack = rack_at rack_ghosts rack

-- the disks that it was handed have not failed where they have no arm
sound : (handed more : List (ℕ × MemoryState)) → All (λ (it : ℕ × MemoryState). FailsOnlyIfArmed it.1) handed → Some handed ≡ Some more
    → All (λ (it : ℕ × MemoryState). it.1.stops.arms ≡ [] → it.1.stops.faults ≡ 0) more
sound handed more all same =
    let is : handed ≡ more = cc in
    subst (λ xs. All (λ (it : ℕ × MemoryState). it.1.stops.arms ≡ [] → it.1.stops.faults ≡ 0) xs) is (λ k d within none. (all k d within none).2)

none_before : (n : ℕ) → 0 + n + 4 ≡ n + 4
none_before n = omega arith

-- how often a disk without bytes was called once its site had begun
calls_anew : (s : Scenario) (i : ℕ) (last : RackAt MemoryState)
    → (racked disk_ghosts (at (rack_of [] 32)) last).calls_begun (shape_of s) s.areas i ≡ Some (calls_begun_anew s)
calls_anew s i last = ap (λ (n : ℕ). Some n) (none_before (calls_of_load (shape_of s) s.areas 0))

-- what a call assures over the rack that was made for it
of_made : (words : List (String Global)) (made last : RackState) (before after : Outside) (ended : Ended) → made ≡ rack_of [] 32
    → Assures words (racked disk_ghosts (at made) (at last)) before after ended
    → Assures words (in_memory last) before after ended
of_made words made last before after ended is assures =
    subst (λ (r : RackState). Assures words (racked disk_ghosts (at r) (at last)) before after ended) is assures

-- and what an audit promises
audit_made : (made last : RackState) (before after : Outside) (ended : Ended) → made ≡ rack_of [] 32
    → AuditPromise (racked disk_ghosts (at made) (at last)) before after ended → AuditPromise (in_memory last) before after ended
audit_made made last before after ended is promise =
    subst (λ (r : RackState). AuditPromise (racked disk_ghosts (at r) (at last)) before after ended) is promise

pub returns-in_default-clause-assured : goal.returns-in_default-clause-assured
returns-in_default-clause-assured g c = λ no_audit. c.without_memory.ensures.assured c.args.words.now _

pub returns-in_default-clause-audit : goal.returns-in_default-clause-audit
returns-in_default-clause-audit g c = λ asks. c.without_memory.ensures.audit _

pub returns-clause-audit : goal.returns-clause-audit
returns-clause-audit g c = λ asks.
    audit_made c.in-Ok.rack c.top-ended.new.rack _ _ c.top-ended.result c.in-Ok.ensures.rack (c.top-ended.ensures.audit asks)

pub returns-clause-assured : goal.returns-clause-assured
returns-clause-assured g c = λ no_audit.
    let is = c.in-Ok.ensures.rack in
    let last = at c.top-ended.new.rack in
    of_made c.args.words.now c.in-Ok.rack c.top-ended.new.rack _ _ c.top-ended.result is
    (assured c.args.words.now disk_ghosts (at c.in-Ok.rack) last _ _ c.top-ended.result (c.top-ended.ensures.promise no_audit) (λ i. refl)
    (λ i. subst (λ (r : RackState). Holds (racked disk_ghosts (at r) last) i (λ bytes. bytes ≡ [])) (sym is) refl)
    (λ s i. subst (λ (r : RackState). (racked disk_ghosts (at r) last).calls_begun (shape_of s) s.areas i ≡ Some (calls_begun_anew s)) (sym is)
    (calls_anew s i last))
    (subst (λ (r : RackState). 32 ≤ unfailing_of r) (sym is) (omega arith))
    (ap (λ (r : RackState). Some r.handed) is)
    (λ more same. sound c.top-ended.new.rack.handed more c.given_unarmed_never_failed.ensures.handed same))
