use Rattle.std.proofs.Common.{◌≡◌, ◌<◌, ◌+◌, suc, length, take, refl, sym, subst, arith, true, false, inl, inr}
use Rattle.std.specs.Prelude.{Contains}
use Rattle.walter_base.specs.Values.{written, write_set}
use Rattle.walter_psi.proofs.Lists.{Contains-one}
use Rattle.walter_audit.proofs.Written.{wrote_here, written_more, not_written, take_all}
use Rattle.walter_audit.proofs.conflicting.do_conflict.Goals as goal
use Rattle.walter_audit.proofs.conflicting.do_conflict.Goals.{in-Write+else-does_write, in_default}

pub returns-then-does_write : goal.returns-then-does_write
returns-then-does_write c =
    let low : c.loop-update.update-index < length c.args.updates.now = omega arith in (
      λ t. (
        c.in-Write.oid,
        wrote_here c.args.updates.now c.loop-update.update-index c.update-item.result c.in-Write.oid
            c.in-Write.field-1 low c.update-item.is c.in-Write.is,
        c.if-does_write.ensures.0 refl,
      ),
      λ has. refl,
    )

pub loop-update-preserved : goal.loop-update-preserved
loop-update-preserved c = λ oid has.
    let low : c.loop-update.update-index < length c.args.updates.now = omega arith in
    let n : c.loop-update.update-index + 1 ≡ suc c.loop-update.update-index = omega arith in
    let more = written_more c.args.updates.now c.loop-update.update-index c.update-item.result oid low c.update-item.is
    (subst (λ k. Contains (write_set (take k c.args.updates.now)) oid) n has) in
    elim more [
      | inl before ↦ c.loop-update.invariant oid before
      | inr now ↦ elim c.match-update.branch [
        | in-Write+else-does_write w ↦
            let same = Contains-one w.in-Write.oid oid (subst (λ u. Contains (written u) oid) w.in-Write.is now) in
            λ there. (let e : false ≡ true = w.if-does_write.ensures.1
            (subst (λ o. Contains (write_set c.args.others.now) o) (sym same) there) in cc)
        | in_default w ↦ λ there. absurd (not_written c.update-item.result w.in_default.not-Write oid now)
      ]
    ]

pub returns : goal.returns
returns c =
    let all = take_all c.args.updates.now c.loop-update.update-index (omega arith) in (
      λ t. absurd (let e : false ≡ true = t in cc),
      λ has. absurd (c.loop-update.invariant has.0
          (subst (λ us. Contains (write_set us) has.0) (sym all) has.1) has.2),
    )
