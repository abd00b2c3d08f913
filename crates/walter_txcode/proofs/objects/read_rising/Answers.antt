use Rattle.std.proofs.Common.{refl, sym, subst, arith}
use Rattle.std.specs.Prelude.{All, IsTrue, false}
use Rattle.walter_base.specs.Names.{IsBefore}
use Rattle.walter_fields.specs.Cursors.{Takes}
use Rattle.walter_txcode.proofs.Failures.{is_unspelled}
use Rattle.walter_txcode.proofs.Rising.{each_object, AreRead, read_more, takes_more, no_more_objects, no_rising}
use Rattle.walter_txcode.proofs.objects.read_rising.Goals as goal

pub returns-in_err-oid-clause-fault : goal.returns-in_err-oid-clause-fault
returns-in_err-oid-clause-fault c =
    let loop = c.loop in
    is_unspelled c.from_residual.result c.from_residual.ensures.1
    (no_more_objects c.args.count loop.objects.items c.args.cursor.now.left loop.cursor.left loop.invariant.taken.front (omega (arith, loop.invariant.counted, c.loop-test.true)) (c.in_err-oid.ensures.short.0 refl))

pub returns-then-not-is_behind-clause-fault : goal.returns-then-not-is_behind-clause-fault
returns-then-not-is_behind-clause-fault c =
    let loop = c.loop in
    let found = loop.objects.items in
    let next = c.in_ok-oid.oid in
    no_rising c.args.count found next c.args.cursor.now.left loop.cursor.left c.read_object.new.cursor.left loop.invariant.taken.front c.in_ok-oid.ensures.taken.front loop.invariant.read c.in_ok-oid.ensures.range
    (omega (arith, loop.invariant.counted, c.loop-test.true))
    (λ behind. let true_is : IsTrue false = c.if-not-is_behind.ensures.1 (subst (λ os. All (λ other. IsBefore other next) os) (sym c.deref.ensures.value) behind) in cc)

pub loop-preserved : goal.loop-preserved
loop-preserved c =
    let loop = c.loop in
    let oid = c.in_ok-oid in
    let found = loop.objects.items in
    let behind = subst (λ os. All (λ other. IsBefore other oid.oid) os) c.deref.ensures.value (c.if-not-is_behind.ensures.0 refl) in
    record {
      taken = subst (λ os. Takes c.args.cursor.now c.read_object.new.cursor (each_object os)) (sym c.in_ok-push.ensures.items) (takes_more c.args.cursor.now loop.cursor c.read_object.new.cursor found oid.oid loop.invariant.taken oid.ensures.taken);
      counted = omega (arith, c.in_ok-push.ensures.len, loop.invariant.counted);
      read = subst AreRead (sym c.in_ok-push.ensures.items) (read_more found oid.oid loop.invariant.read oid.ensures.range behind);
    }
