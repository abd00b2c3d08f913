use Rattle.std.proofs.Common.{◌≡◌, ◌↔◌, ℕ, List, Some, Contains, subst}
use Rattle.walter_base.specs.declared.names.ObjId.{ObjId}
use Rattle.walter_base.specs.declared.names.SiteId.{SiteId}
use Rattle.walter_locks.specs.Parts.{Table, part_of, owner_of}
use Rattle.walter_rules.specs.Slow.{Locked}
use Rattle.walter_locks.proofs.Parts.{owner_of_lock, one_owner}
use Rattle.walter_locks.proofs.locks.Locks.owner.Goals as goal

pub returns-clause-of_lock : goal.returns-clause-of_lock
returns-clause-of_lock c o tid =
    subst (λ (t : Table). (owner_of t o ≡ Some tid) ↔ ((j : SiteId) × (n : ℕ) × (objects : List ObjId) × (part_of t j n ≡ Locked tid objects) × Contains objects o)) c.self.view_is
    (owner_of_lock c.self.inside.locks.entries c.self.inside.dead.items c.self.invariant.single o tid)

pub returns-clause-single : goal.returns-clause-single
returns-clause-single c j k n m tid other objects others o =
    subst (λ (t : Table). part_of t j n ≡ Locked tid objects → part_of t k m ≡ Locked other others → Contains objects o → Contains others o → (j ≡ k) × (n ≡ m)) c.self.view_is
    (one_owner c.self.inside.locks.entries c.self.inside.dead.items c.self.invariant.single j k n m tid other objects others o)
