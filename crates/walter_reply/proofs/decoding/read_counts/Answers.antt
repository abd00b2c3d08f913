use Rattle.std.proofs.Common.{refl, arith}
use Rattle.walter_reply.specs.Sets.{short}
use Rattle.walter_reply.proofs.SetStops.{bad_at, cut_at, too_many}
use Rattle.walter_reply.proofs.decoding.read_counts.Goals as goal

pub returns-in_default-clause-stop : goal.returns-in_default-clause-stop
returns-in_default-clause-stop c = cut_at c.args.cursor.now.left (short (c.in_default.ensures.short.0 refl) refl)

pub returns-then-n-gt-MOST_ENTRIES-clause-stop : goal.returns-then-n-gt-MOST_ENTRIES-clause-stop
returns-then-n-gt-MOST_ENTRIES-clause-stop c =
    let left = c.args.cursor.now.left in
    bad_at left 0 1 refl (too_many c.in-Ok.n left c.u32.new.self.left (omega arith) c.in-Ok.ensures.taken.front c.if-n-gt-MOST_ENTRIES.true)
