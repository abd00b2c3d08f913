use Rattle.std.proofs.Common.{refl, arith}
use Rattle.walter_fields.specs.Spellings.{number_read}
use Rattle.walter_fields.proofs.Readings.{IsBytes-drop, block_in_front, LacksBlock-from_less, has_block}
use Rattle.walter_fields.proofs.cursor.Cursor.block.Goals as goal

pub returns-in_default-split_at_checked-clause-short :
    goal.returns-in_default-split_at_checked-clause-short
unfolding number_read
returns-in_default-split_at_checked-clause-short c =
    let n = c.read_u32-length in
    let less = c.in_default-split_at_checked.ensures.cases in
    rw (← c.self.view_is) (λ is. LacksBlock-from_less n.result c.self.inside.left.now c.in-Some.length.now c.in-Some.rest.now n.ensures c.in-Some.ensures.cases less, λ lacks. refl)

pub invariant_of-self : goal.invariant_of-self
invariant_of-self c =
    let cut = c.in-Some.ensures.cases in
    let cut_rest = c.in-Some-split_at_checked.ensures.cases in
    (omega (arith, c.self.invariant.0, cut, cut_rest), rw (cut_rest.2, cut.2) (IsBytes-drop c.read_u32-length.result _ (IsBytes-drop 4 c.self.inside.left.now c.self.invariant.1)))

pub returns-clause-taken : goal.returns-clause-taken
unfolding number_read
returns-clause-taken c =
    let n = c.read_u32-length in
    let split = c.in-Some-split_at_checked in
    rw (← c.self.view_is) (block_in_front c.self.inside.end n.result c.self.inside.left.now c.in-Some.length.now c.in-Some.rest.now split.bytes.now split.rest.now c.self.invariant.1
    n.ensures c.in-Some.ensures.cases split.ensures.cases)

pub returns-clause-short : goal.returns-clause-short
unfolding number_read
returns-clause-short c =
    let n = c.read_u32-length in
    let split = c.in-Some-split_at_checked in
    rw (← c.self.view_is) (
      λ is. absurd cc,
      λ lacks. absurd (has_block n.result c.self.inside.left.now c.in-Some.length.now c.in-Some.rest.now split.bytes.now split.rest.now n.ensures c.in-Some.ensures.cases split.ensures.cases lacks),
    )
