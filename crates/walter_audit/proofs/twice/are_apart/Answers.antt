use Rattle.std.proofs.Common.{◌+◌, Some, ap, sym, ◌∙◌, subst, arith}
use Rattle.std.proofs.lemmas.Option.{slice_get_within}
use Rattle.walter_audit.proofs.Asked.{got_at}
use Rattle.walter_audit.proofs.Names.{AreKept, kept_own, kept_other, was_new}
use Rattle.walter_audit.proofs.twice.are_apart.Goals as goal
use Rattle.walter_audit.proofs.twice.are_apart.Goals.{in-Own+in_ok-insert+else-not-branch, in_default}

pub loop-journaled-preserved : goal.loop-journaled-preserved
loop-journaled-preserved c = elim c.match-journaled.branch [
  | in-Own+in_ok-insert+else-not-branch w ↦
      let at = got_at c.args.records.now c.loop-journaled.journaled-index c.journaled-item.result c.loop-journaled-test.true
      c.journaled-item.is ∙ ap Some w.in-Own.is in
      let fresh = was_new _ w.in_ok-insert.field-0 w.in_ok-insert.ensures.added w.if-not-branch.false in
      subst (λ names. AreKept c.args.records.now names (c.loop-journaled.journaled-index + 1)) (sym w.names-is)
      (kept_own c.args.records.now c.loop-journaled.names w.insert.new.self c.loop-journaled.journaled-index w.in-Own.field-0
      w.in-Own.tx at fresh w.in_ok-insert.ensures.updates c.loop-journaled.invariant)
  | in_default w ↦
      let at = got_at c.args.records.now c.loop-journaled.journaled-index c.journaled-item.result c.loop-journaled-test.true
      c.journaled-item.is in
      subst (λ names. AreKept c.args.records.now names (c.loop-journaled.journaled-index + 1)) (sym w.names-is)
      (kept_other c.args.records.now c.loop-journaled.names c.loop-journaled.journaled-index c.journaled-item.result at
      w.in_default.not-Own c.loop-journaled.invariant)
]

pub returns : goal.returns
returns c = λ t k m seq other x y less a b.
    let within = slice_get_within c.args.records.now m _ b in
    c.loop-journaled.invariant.apart k m seq other x y less (omega (arith, within)) a b
