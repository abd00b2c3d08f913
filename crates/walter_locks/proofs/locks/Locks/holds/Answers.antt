use Rattle.std.proofs.Common.{◌≡◌, ◌↔◌, List, IsTrue, sym, subst}
use Rattle.walter_base.specs.declared.names.ObjId.{ObjId}
use Rattle.walter_base.specs.declared.names.Tid.{Tid}
use Rattle.walter_locks.specs.Parts.{Table, part_of, lock_of, is_dead}
use Rattle.walter_rules.specs.Slow.{Locked}
use Rattle.walter_locks.proofs.Parts.{is_locked}
use Rattle.walter_locks.proofs.locks.Locks.holds.Goals as goal

pub returns : goal.returns
returns c =
    let j = c.args.coordinator in
    let n = c.args.slow in
    let here = is_locked (lock_of c.self.inside.locks.entries j n) (is_dead c.self.inside.dead.items j n) in
    subst (λ (t : Table). IsTrue c.contains_key.result ↔ ((tid : Tid) × (objects : List ObjId) × (part_of t j n ≡ Locked tid objects))) c.self.view_is
    (subst (λ b. IsTrue b ↔ ((tid : Tid) × (objects : List ObjId) × (part_of (record { locks = c.self.inside.locks.entries; dead = c.self.inside.dead.items; objects = 0; places = 0 }) j n ≡ Locked tid objects))) (sym c.contains_key.ensures) here)
