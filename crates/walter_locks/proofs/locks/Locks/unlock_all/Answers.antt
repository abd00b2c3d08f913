use Rattle.std.proofs.Common.{◌∙◌, None, sym, ap, subst, if◌then◌else◌}
use Rattle.walter_base.specs.Names.{same_site}
use Rattle.walter_rules.specs.Slow.{does_lock, unlocked}
use Rattle.walter_locks.specs.Parts.{Table, AreSingle, part_of, owner_of, owner_in, lock_of, is_locked_by, is_dead}
use Rattle.walter_locks.proofs.Leaving.{locks_left, single_others, owner_others, no_owner_of_theirs, owner_of_others}
use Rattle.walter_locks.proofs.Parts.{parts_unlocked, alive_left, lock_with, lock_without}
use Rattle.walter_locks.proofs.locks.Locks.unlock_all.Goals as goal

pub invariant_of-self : goal.invariant_of-self
invariant_of-self c =
    let j = c.args.coordinator in
    let es = c.self.inside.locks.entries in
    record {
      owned = λ oid.
          c.disown_all.ensures.owners oid
          ∙ ap (λ o. if is_locked_by j es oid then None else o) (c.self.invariant.owned oid)
          ∙ sym (ap (λ es. owner_in es oid) c.drop_locks.ensures.others ∙ owner_others j es oid c.self.invariant.single);
      single = subst AreSingle (sym c.drop_locks.ensures.others) (single_others j es c.self.invariant.single);
      alive = alive_left es c.drop_locks.new.locks.entries c.self.inside.dead.items (λ k n. same_site j k) c.self.invariant.alive
          (λ k n. ap (λ es. lock_of es k n) c.drop_locks.ensures.others ∙ locks_left j es k n);
    }

pub returns-clause-parts : goal.returns-clause-parts
returns-clause-parts c k n =
    let j = c.args.coordinator in
    let es = c.self.inside.locks.entries in
    let dead = c.self.inside.dead.items in
    parts_unlocked (same_site j k) (lock_of es k n) (lock_of c.drop_locks.new.locks.entries k n) (is_dead dead k n)
    (ap (λ es. lock_of es k n) c.drop_locks.ensures.others ∙ locks_left j es k n) (c.self.invariant.alive k n)
    ∙ ap (λ (t : Table). if same_site j k then unlocked (part_of t k n) else part_of t k n) c.self.view_is

pub returns-clause-freed : goal.returns-clause-freed
returns-clause-freed c oid n locks =
    let j = c.args.coordinator in
    let es = c.self.inside.locks.entries in
    let lock = lock_with (lock_of es j n) (is_dead c.self.inside.dead.items j n) oid (ap (λ (t : Table). does_lock (part_of t j n) oid) c.self.view_is ∙ locks) in
    ap (λ es. owner_in es oid) c.drop_locks.ensures.others ∙ no_owner_of_theirs j es c.self.invariant.single oid n lock.0 lock.1 lock.2

pub returns-clause-others : goal.returns-clause-others
returns-clause-others c oid locks =
    let j = c.args.coordinator in
    let es = c.self.inside.locks.entries in
    ap (λ es. owner_in es oid) c.drop_locks.ensures.others
    ∙ owner_of_others j es c.self.invariant.single oid
    (λ n l. lock_without (lock_of es j n) (is_dead c.self.inside.dead.items j n) oid l (ap (λ (t : Table). does_lock (part_of t j n) oid) c.self.view_is ∙ locks n))
    ∙ ap (λ (t : Table). owner_of t oid) c.self.view_is
