use Rattle.std.proofs.Common.{arith}
use Rattle.walter_journal.proofs.Reading.{is_record}
use Rattle.walter_journal.proofs.layout.record_at.Goals as goal

pub returns-clause-ok : goal.returns-clause-ok
returns-clause-ok c = (
  is_record c.args.behind.now c.in-Some.front.now c.in-Some.rest.now _ _ _ (λ i. omega (arith, c.type_inv.behind i)) c.in-Some.ensures.cases c.read_u32-length.ensures (omega arith) c.split_at.ensures.front c.split_at.ensures.back,
  omega arith,
  omega arith,
)
