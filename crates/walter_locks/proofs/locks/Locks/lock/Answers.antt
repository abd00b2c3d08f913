use Rattle.std.proofs.Common.{◌≡◌, ◌<◌, ◌∙◌, All, None, Some, sym, ap, subst, if◌then◌else◌}
use Rattle.std.specs.Map.{lookup}
use Rattle.indexmap.proofs.CallerLemmas.{insert_entry-new}
use Rattle.walter_base.specs.Names.{same_object}
use Rattle.walter_locks.specs.declared.lock.Lock.{Lock}
use Rattle.walter_locks.specs.declared.lock.SlowId.{SlowId}
use Rattle.walter_locks.specs.Parts.{Table, AreSingle, part_of, owner_of, owner_in, lock_of, is_dead, same_slow}
use Rattle.walter_rules.specs.Slow.{Locked, has_object, is_slow}
use Rattle.walter_locks.proofs.Parts.{free_part, free_objects, parts_locked, alive_locked, from_ok}
use Rattle.walter_locks.proofs.SingleLocks.{owner_behind, single_behind}
use Rattle.walter_locks.proofs.locks.Locks.lock.Goals as goal

pub invariant_of-self : goal.invariant_of-self
invariant_of-self c =
    let es = c.self.inside.locks.entries in
    let dead = c.self.inside.dead.items in
    let key : SlowId = record { coordinator = c.args.coordinator; slow = c.args.slow } in
    let l : Lock = record { owner = c.args.tid; objects = c.args.objects } in
    let free = free_part (lock_of es c.args.coordinator c.args.slow) (is_dead dead c.args.coordinator c.args.slow) (ap (λ (t : Table). part_of t c.args.coordinator c.args.slow) c.self.view_is ∙ c.requires.free) in
    let ok = c.insert.ensures.succeeds (subst (λ (t : Table). 0 < t.places) (sym c.self.view_is) c.requires.room.1) in
    let objects = free_objects es c.args.objects (subst (λ (t : Table). All (λ oid. owner_of t oid ≡ None) c.args.objects) (sym c.self.view_is) c.requires.objects) in
    let all = from_ok c.insert.result _ ok c.insert.ensures.entries ∙ insert_entry-new same_slow c.self.inside.locks key l free.0 in
    let updates = from_ok c.insert.result _ ok c.insert.ensures.updates in
    record {
      owned = λ oid.
          c.own.ensures.owners oid ∙ ap (λ os. if has_object oid os then Some c.args.tid else lookup (same_object oid) c.self.inside.owners.entries) c.as_slice.ensures
          ∙ ap (λ o. if has_object oid c.args.objects then Some c.args.tid else o) (c.self.invariant.owned oid)
          ∙ sym (ap (λ es. owner_in es oid) all ∙ owner_behind key l es oid (objects oid));
      single = subst AreSingle (sym all) (single_behind key l es c.self.invariant.single free.0 objects);
      alive = alive_locked es c.insert.new.self.entries dead key c.self.invariant.alive l (λ j n. updates.0 (record { coordinator = j; slow = n })) free.1;
    }

pub returns-clause-parts : goal.returns-clause-parts
returns-clause-parts c j n =
    let es = c.self.inside.locks.entries in
    let dead = c.self.inside.dead.items in
    let key : SlowId = record { coordinator = c.args.coordinator; slow = c.args.slow } in
    let l : Lock = record { owner = c.args.tid; objects = c.args.objects } in
    let free = free_part (lock_of es c.args.coordinator c.args.slow) (is_dead dead c.args.coordinator c.args.slow) (ap (λ (t : Table). part_of t c.args.coordinator c.args.slow) c.self.view_is ∙ c.requires.free) in
    let ok = c.insert.ensures.succeeds (subst (λ (t : Table). 0 < t.places) (sym c.self.view_is) c.requires.room.1) in
    let updates = from_ok c.insert.result _ ok c.insert.ensures.updates in
    parts_locked (is_slow c.args.coordinator c.args.slow j n) l (lock_of es j n) (lock_of c.insert.new.self.entries j n) (is_dead dead j n) (updates.0 (record { coordinator = j; slow = n }))
    ∙ ap (λ (t : Table). if is_slow c.args.coordinator c.args.slow j n then Locked c.args.tid c.args.objects else part_of t j n) c.self.view_is

pub returns-clause-owners : goal.returns-clause-owners
returns-clause-owners c oid =
    let es = c.self.inside.locks.entries in
    let dead = c.self.inside.dead.items in
    let key : SlowId = record { coordinator = c.args.coordinator; slow = c.args.slow } in
    let l : Lock = record { owner = c.args.tid; objects = c.args.objects } in
    let free = free_part (lock_of es c.args.coordinator c.args.slow) (is_dead dead c.args.coordinator c.args.slow) (ap (λ (t : Table). part_of t c.args.coordinator c.args.slow) c.self.view_is ∙ c.requires.free) in
    let ok = c.insert.ensures.succeeds (subst (λ (t : Table). 0 < t.places) (sym c.self.view_is) c.requires.room.1) in
    let objects = free_objects es c.args.objects (subst (λ (t : Table). All (λ oid. owner_of t oid ≡ None) c.args.objects) (sym c.self.view_is) c.requires.objects) in
    let all = from_ok c.insert.result _ ok c.insert.ensures.entries ∙ insert_entry-new same_slow c.self.inside.locks key l free.0 in
    ap (λ es. owner_in es oid) all ∙ owner_behind key l es oid (objects oid)
    ∙ ap (λ (t : Table). if has_object oid c.args.objects then Some c.args.tid else owner_of t oid) c.self.view_is
