use Rattle.std.proofs.Common.{refl, arith}
use Rattle.std.specs.Prelude.{IsTrue, false}
use Rattle.walter_reply.specs.Sets.{short_id}
use Rattle.walter_reply.proofs.SetStops.{entry_at, entry_cut, id_falls, count_cut, count_zero}
use Rattle.walter_reply.proofs.decoding.read_entry.Goals as goal

pub returns-in_default-clause-stop : goal.returns-in_default-clause-stop
returns-in_default-clause-stop c = λ n low few.
    entry_cut n c.args.before.now c.args.cursor.now.left c.requires.right low few (short_id (c.in_default.ensures.short.0 refl) refl)

pub returns-then-not-is_above-clause-stop : goal.returns-then-not-is_above-clause-stop
returns-then-not-is_above-clause-stop c = λ n low few.
    entry_at n c.args.before.now c.args.cursor.now.left 0 _ c.requires.right low few (omega arith)
    (id_falls c.args.before.now c.args.cursor.now.left c.u64.new.self.left c.in-Ok.id (omega arith) c.in-Ok.ensures.taken.front (λ above. let true_is : IsTrue false = c.if-not-is_above.ensures.1 above in cc))

pub returns-in_default-i64-clause-stop : goal.returns-in_default-i64-clause-stop
returns-in_default-i64-clause-stop c = λ n low few.
    entry_cut n c.args.before.now c.args.cursor.now.left c.requires.right low few
    (count_cut c.args.before.now c.args.cursor.now.left c.u64.new.self.left c.in-Ok.id (omega arith) c.in-Ok.ensures.taken.front (c.if-not-is_above.ensures.0 refl) (c.in_default-i64.ensures.short.0 refl))

pub returns-then-count-eq0-clause-stop : goal.returns-then-count-eq0-clause-stop
returns-then-count-eq0-clause-stop c = λ n low few.
    entry_at n c.args.before.now c.args.cursor.now.left 8 _ c.requires.right low few (omega arith)
    (count_zero c.args.before.now c.args.cursor.now.left c.u64.new.self.left c.i64.new.self.left c.in-Ok.id c.in-Ok-i64.count (omega arith) c.in-Ok.ensures.taken.front (c.if-not-is_above.ensures.0 refl) c.in-Ok-i64.ensures.taken.front c.if-count-eq0.true)
