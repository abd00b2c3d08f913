use Rattle.std.proofs.Common.{refl, subst}
use Rattle.std.specs.Prelude.{IsTrue, false}
use Rattle.walter_fields.proofs.Readings.{left_of_whole}
use Rattle.walter_txcode.specs.Faults.{IfUnspelled, NoneBegins}
use Rattle.walter_txcode.specs.Spelling.{spelling, HasSpelling}
use Rattle.walter_txcode.proofs.Joined.{spells_none, more_behind, spells_whole, free_transactions}
use Rattle.walter_txcode.proofs.decoding.decode.Goals as goal

pub returns-then-is_at_end-clause-some : goal.returns-then-is_at_end-clause-some
returns-then-is_at_end-clause-some c =
    let found = c.in-Ok in
    let left = left_of_whole c.new-cursor.result c.args.bytes.now c.new-cursor.ensures in
    (found.ensures.spelled, spells_whole left found.ensures.taken.front (c.if-is_at_end.ensures.0 refl))

pub returns-else-is_at_end-clause-none : goal.returns-else-is_at_end-clause-none
returns-else-is_at_end-clause-none c =
    let found = c.in-Ok in
    let left = left_of_whole c.new-cursor.result c.args.bytes.now c.new-cursor.ensures in
    more_behind (free_transactions c.args.format c.args.sites) left found.tx found.ensures.spelled found.ensures.taken.front (λ ended. absurd (let true_is : IsTrue false = c.if-is_at_end.ensures.1 ended in cc))

pub returns-in-Err-Unspelled-clause-none : goal.returns-in-Err-Unspelled-clause-none
returns-in-Err-Unspelled-clause-none c =
    let err = c.in-Err-Unspelled in
    let left = left_of_whole c.new-cursor.result c.args.bytes.now c.new-cursor.ensures in
    spells_none left (subst (λ fault. IfUnspelled fault (NoneBegins (HasSpelling c.args.format c.args.sites) (spelling c.args.format) c.new-cursor.result.left)) err.field-0-is err.ensures.fault)
