use Rattle.std.proofs.Common.{◌∙◌, ap, if◌then◌else◌}
use Rattle.walter_locks.specs.Parts.{lock_of, is_dead}
use Rattle.walter_rules.specs.Slow.{Free, Over}
use Rattle.walter_locks.proofs.Marked.{none_over}
use Rattle.walter_locks.proofs.Parts.{part_in}
use Rattle.walter_locks.proofs.locks.Locks.new.Goals as goal

pub returns-clause-parts : goal.returns-clause-parts
returns-clause-parts c j n =
    let dead = c.in_ok-dead.dead.items in
    ap (λ es. part_in (lock_of es j n) (is_dead dead j n)) c.new-2.ensures.empty ∙ ap (λ b. if b then Over else Free) (none_over dead c.in_ok-dead.ensures.none j n)
