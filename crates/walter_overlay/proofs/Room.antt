-- How far from 0 laid counts can be.
use Rattle.std.proofs.Common.{ℕ, ◌-◌, ◌^◌, ◌<◌, List, length, take, arith}
use Rattle.std.specs.Prelude.{ℤ, pos, ◌+ℤ◌, ◌-ℤ◌, ◌<ℤ◌}
use Rattle.std.proofs.lemmas.Int.{ints}
use Rattle.std.proofs.lemmas.List.{length-take-le}
use Rattle.walter_base.specs.declared.names.ObjId.{ObjId}
use Rattle.walter_base.specs.declared.update.Update.{Update}
use Rattle.walter_base.specs.Values.{count_of}
use Rattle.walter_cset.proofs.Steps.{low_count, high_count}
use Rattle.walter_overlay.specs.Overlays.{IsModest}

-- before the last update a count that was modest can rise and fall by one
pub room_left : (base : ℤ) (oid : ObjId) (id : ℕ) (updates : List Update) (i : ℕ) → IsModest base → length updates < 2 ^ 61 → i < length updates
    → ((pos 0 -ℤ pos (2 ^ 63)) <ℤ (base +ℤ count_of oid id (take i updates))) × ((base +ℤ count_of oid id (take i updates)) <ℤ pos (2 ^ 63 - 1))
room_left base oid id updates i modest few within =
    let low = low_count oid id (take i updates) in
    let high = high_count oid id (take i updates) in
    let front = length-take-le i updates (omega (arith, within)) in
    (omega (arith, ints, modest.0, low, front, few, within), omega (arith, ints, modest.1, high, front, few, within))
