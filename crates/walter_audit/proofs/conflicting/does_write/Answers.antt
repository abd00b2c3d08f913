use Rattle.std.proofs.Common.{◌≡◌, ◌<◌, length, refl, subst, arith, rules}
use Rattle.std.specs.Prelude.{Contains}
use Rattle.walter_base.specs.Values.{write_set}
use Rattle.walter_audit.proofs.Written.{wrote_here}
use Rattle.walter_audit.proofs.conflicting.does_write.Goals as goal

pub returns-then-eq : goal.returns-then-eq
returns-then-eq c =
    let low : c.loop-update.update-index < length c.args.updates.now = omega arith in
    let same : c.in-Write.written ≡ c.args.oid = search rules in (
      λ t. subst (λ o. Contains (write_set c.args.updates.now) o) same
          (wrote_here c.args.updates.now c.loop-update.update-index c.update-item.result c.in-Write.written c.in-Write.field-1 low
          c.update-item.is c.in-Write.is),
      λ has. refl,
    )
