use Rattle.std.proofs.Common.{◌+◌, Some, ap, sym, ◌∙◌, subst}
use Rattle.std.specs.HashMap.{get}
use Rattle.walter_base.specs.Names.{same_object}
use Rattle.walter_audit.proofs.Asked.{got_at}
use Rattle.walter_audit.proofs.Lasting.{ArePut, put_write, put_other}
use Rattle.walter_audit.proofs.looking.put_writer.Goals as goal
use Rattle.walter_audit.proofs.looking.put_writer.Goals.{in-Write+in_ok-insert, in_default}

pub loop-update-preserved : goal.loop-update-preserved
loop-update-preserved c = elim c.match-update.branch [
  | in-Write+in_ok-insert w ↦
      let at = got_at c.args.updates.now c.loop-update.update-index c.update-item.result c.loop-update-test.true
      c.update-item.is ∙ ap Some w.in-Write.is in
      subst (λ last. ArePut c.args.version (λ o. get same_object c.args.last.now o) c.args.updates.now
      (c.loop-update.update-index + 1) (λ o. get same_object last o)) (sym w.last-is)
      (put_write c.args.version (λ o. get same_object c.args.last.now o) c.args.updates.now c.loop-update.update-index
      w.in-Write.oid w.in-Write.field-1 (λ o. get same_object c.loop-update.last o)
      (λ o. get same_object w.insert.new.self o) at w.in_ok-insert.ensures.updates.0 c.loop-update.invariant)
  | in_default w ↦
      let at = got_at c.args.updates.now c.loop-update.update-index c.update-item.result c.loop-update-test.true
      c.update-item.is in
      subst (λ last. ArePut c.args.version (λ o. get same_object c.args.last.now o) c.args.updates.now
      (c.loop-update.update-index + 1) (λ o. get same_object last o)) (sym w.last-is)
      (put_other c.args.version (λ o. get same_object c.args.last.now o) c.args.updates.now c.loop-update.update-index
      c.update-item.result (λ o. get same_object c.loop-update.last o) at w.in_default.not-Write c.loop-update.invariant)
]
