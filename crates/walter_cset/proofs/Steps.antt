-- Counts after more updates, and how far from 0 they can be.
use Rattle.std.proofs.Common.{◌≡◌, ℕ, ◌+◌, ◌-◌, ◌^◌, ◌≤◌, ◌<◌, List, [], ◌∷◌, ◌++◌, length, take, get_or, filter, ap, sym, ◌∙◌, arith}
use Rattle.std.specs.Prelude.{pos, ◌+ℤ◌, ◌-ℤ◌, ◌≤ℤ◌, ◌<ℤ◌}
use Rattle.std.proofs.lemmas.Int.{ints}
use Rattle.std.proofs.lemmas.List.{length-map, length-take-le, take_more}
use Rattle.std.proofs.lemmas.List.Sums.{count_by-le-length, length-filter}
use Rattle.walter_base.specs.declared.names.ObjId.{ObjId}
use Rattle.walter_base.specs.declared.update.Row.{Row}
use Rattle.walter_base.specs.declared.update.Update.{Update}
use Rattle.walter_base.specs.Values.{count_of, adds, takes}
use Rattle.walter_history.specs.Rows.{sees_row, seen_updates}
use Rattle.walter_history.proofs.Standing.{count-append}

-- a count is no further from 0 than there are updates
pub low_count : (oid : ObjId) (id : ℕ) (updates : List Update) → (pos 0 -ℤ pos (length updates)) ≤ℤ count_of oid id updates
low_count oid id updates =
    let fewer = count_by-le-length (takes oid id) updates in
    omega (arith, ints, fewer)

pub high_count : (oid : ObjId) (id : ℕ) (updates : List Update) → count_of oid id updates ≤ℤ pos (length updates)
high_count oid id updates =
    let fewer = count_by-le-length (adds oid id) updates in
    omega (arith, ints, fewer)

-- an update raises a count by one at most, and lowers it by one at most
pub small_step : (oid : ObjId) (id : ℕ) (update : Update) → ((pos 0 -ℤ pos 1) ≤ℤ count_of oid id (update ∷ [])) × (count_of oid id (update ∷ []) ≤ℤ pos 1)
small_step oid id update = (low_count oid id (update ∷ []), high_count oid id (update ∷ []))

-- the count after one update more
pub count_next : (oid : ObjId) (id : ℕ) (updates : List Update) (i : ℕ) (update : Update) → i < length updates → update ≡ get_or updates i update
    → count_of oid id (take (i + 1) updates) ≡ count_of oid id (take i updates) +ℤ count_of oid id (update ∷ [])
count_next oid id updates i update within is =
    ap (count_of oid id) (take_more updates i update within ∙ ap (λ (u : Update). take i updates ++ u ∷ []) (sym is))
    ∙ count-append oid id (take i updates) (update ∷ [])

-- no more updates are seen than there are rows
pub few_seen : (vector : List ℕ) (rows : List Row) → length (seen_updates vector rows) ≤ length rows
few_seen vector rows =
    let all = length-map (filter (sees_row vector) rows) (λ (r : Row). r.update) in
    let some = length-filter (sees_row vector) rows in
    let most = count_by-le-length (sees_row vector) rows in
    omega (arith, all, some, most)

-- before the last row each count can rise and fall by one
pub room_left : (oid : ObjId) (id : ℕ) (vector : List ℕ) (rows : List Row) (i : ℕ) → length rows < 2 ^ 63 → i < length rows
    → ((pos 0 -ℤ pos (2 ^ 63)) <ℤ count_of oid id (seen_updates vector (take i rows))) × (count_of oid id (seen_updates vector (take i rows)) <ℤ pos (2 ^ 63 - 1))
room_left oid id vector rows i few within =
    let low = low_count oid id (seen_updates vector (take i rows)) in
    let high = high_count oid id (seen_updates vector (take i rows)) in
    let seen = few_seen vector (take i rows) in
    let front = length-take-le i rows (omega (arith, within)) in
    (omega (arith, ints, low, seen, front, few, within), omega (arith, ints, high, seen, front, few, within))
