use Rattle.std.proofs.Common.{◌∙◌, None, sym, ap, subst, if◌then◌else◌}
use Rattle.std.specs.Map.{lookup}
use Rattle.walter_base.specs.Names.{same_object}
use Rattle.walter_locks.specs.declared.lock.SlowId.{SlowId}
use Rattle.walter_locks.specs.Parts.{Table, AreSingle, part_of, owner_of, owner_in, lock_of, is_dead, same_slow}
use Rattle.walter_rules.specs.Slow.{has_object, is_slow, does_lock, unlocked}
use Rattle.walter_locks.proofs.Parts.{part_in, parts_unlocked, alive_left}
use Rattle.walter_locks.proofs.SingleLocks.{owner_left, single_left}
use Rattle.walter_locks.proofs.locks.Locks.unlock.Goals as goal

pub invariant_of-self-2 : goal.invariant_of-self-2
invariant_of-self-2 c =
    let es = c.self.inside.locks.entries in
    let dead = c.self.inside.dead.items in
    let key : SlowId = record { coordinator = c.args.coordinator; slow = c.args.slow } in
    let lock = c.in-Some.lock in
    let at = sym c.shift_remove.ensures.value ∙ c.in-Some.is in
    record {
      owned = λ oid.
          c.disown.ensures.owners oid ∙ ap (λ os. if has_object oid os then None else lookup (same_object oid) c.self.inside.owners.entries) c.as_slice.ensures
          ∙ ap (λ o. if has_object oid lock.objects then None else o) (c.self.invariant.owned oid)
          ∙ sym (ap (λ es. owner_in es oid) c.shift_remove.ensures.entries ∙ owner_left key lock es oid c.self.invariant.single at);
      single = subst AreSingle (sym c.shift_remove.ensures.entries) (single_left (same_slow key) es c.self.invariant.single);
      alive = alive_left es c.shift_remove.new.self.entries dead (is_slow c.args.coordinator c.args.slow) c.self.invariant.alive (λ j n. c.shift_remove.ensures.updates.0 (record { coordinator = j; slow = n }));
    }

pub returns-clause-parts : goal.returns-clause-parts
returns-clause-parts c j n =
    let es = c.self.inside.locks.entries in
    let dead = c.self.inside.dead.items in
    parts_unlocked (is_slow c.args.coordinator c.args.slow j n) (lock_of es j n) (lock_of c.shift_remove.new.self.entries j n) (is_dead dead j n)
    (c.shift_remove.ensures.updates.0 (record { coordinator = j; slow = n })) (c.self.invariant.alive j n)
    ∙ ap (λ (t : Table). if is_slow c.args.coordinator c.args.slow j n then unlocked (part_of t j n) else part_of t j n) c.self.view_is

pub returns-clause-owners : goal.returns-clause-owners
returns-clause-owners c oid =
    let es = c.self.inside.locks.entries in
    let dead = c.self.inside.dead.items in
    let key : SlowId = record { coordinator = c.args.coordinator; slow = c.args.slow } in
    let lock = c.in-Some.lock in
    let at = sym c.shift_remove.ensures.value ∙ c.in-Some.is in
    ap (λ es. owner_in es oid) c.shift_remove.ensures.entries ∙ owner_left key lock es oid c.self.invariant.single at
    ∙ ap (λ b. if b then None else owner_in es oid) (sym (ap (λ o. does_lock (part_in o (is_dead dead c.args.coordinator c.args.slow)) oid) at))
    ∙ ap (λ (t : Table). if does_lock (part_of t c.args.coordinator c.args.slow) oid then None else owner_of t oid) c.self.view_is
