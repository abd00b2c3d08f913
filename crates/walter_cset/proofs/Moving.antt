-- A count on its way from one vector to another.
use Rattle.std.proofs.Common.{◌≡◌, ℕ, ◌+◌, ◌-◌, ◌*◌, ◌^◌, ◌≤◌, ◌<◌, true, cond, List, [], ◌∷◌, ◌++◌, length, take, get_or, map, filter, All, refl, ap, sym, ◌∙◌, arith}
use Rattle.std.specs.Prelude.{pos, ◌+ℤ◌, ◌-ℤ◌, ◌≤ℤ◌, ◌<ℤ◌}
use Rattle.std.proofs.lemmas.Int.{ints}
use Rattle.std.proofs.lemmas.List.{take_more, length-take-le, length-map, map-append}
use Rattle.std.proofs.lemmas.List.Elements.{All-head, All-tail}
use Rattle.walter_base.specs.declared.names.ObjId.{ObjId}
use Rattle.walter_base.specs.declared.update.Row.{Row}
use Rattle.walter_base.specs.Values.{count_of}
use Rattle.walter_base.specs.Vectors.{Covers}
use Rattle.walter_cset.specs.Between.{moved}
use Rattle.walter_history.specs.declared.steps.Step.{Step}
use Rattle.walter_history.specs.Steps.{told, AreBehind}
use Rattle.walter_history.specs.Kept.{Kept, StandsForRows}
use Rattle.walter_history.specs.Rows.{sees_row, seen_updates}
use Rattle.walter_cset.proofs.Steps.{low_count, high_count, few_seen}
use Rattle.walter_history.proofs.Standing.{count_seen-append}

-- one step more
pub moved_more : (from to : List ℕ) (oid : ObjId) (id : ℕ) (steps : List Step) (i : ℕ) (step : Step) → i < length steps → step ≡ get_or steps i step
    → moved from to oid id (told (take (i + 1) steps)) ≡ moved from to oid id (told (take i steps)) +ℤ moved from to oid id (step.row ∷ [])
moved_more from to oid id steps i step within is =
    let more = ap (λ ss. moved from to oid id (told ss)) (take_more steps i step within ∙ ap (λ (s : Step). take i steps ++ s ∷ []) (sym is))
    ∙ ap (moved from to oid id) (map-append (λ (s : Step). s.row) (take i steps) (step ∷ [])) in
    let by_to = count_seen-append oid id to (told (take i steps)) (step.row ∷ []) in
    let by_from = count_seen-append oid id from (told (take i steps)) (step.row ∷ []) in
    omega (arith, ints, more, by_to, by_from)

-- rows that both vectors see
seen_same : (from to : List ℕ) (rows : List Row) → All (λ row. (sees_row from row ≡ true) × (sees_row to row ≡ true)) rows → seen_updates from rows ≡ seen_updates to rows
seen_same from to [] all = refl
seen_same from to (r ∷ rs) all =
    let here = All-head (λ (row : Row). (sees_row from row ≡ true) × (sees_row to row ≡ true)) r rs all in
    let rest = seen_same from to rs (All-tail (λ (row : Row). (sees_row from row ≡ true) × (sees_row to row ≡ true)) r rs all) in
    ap (λ b. map (λ (q : Row). q.update) (cond b (r ∷ filter (sees_row from) rs) (filter (sees_row from) rs))) here.0
    ∙ ap (λ us. r.update ∷ us) rest
    ∙ sym (ap (λ b. map (λ (q : Row). q.update) (cond b (r ∷ filter (sees_row to) rs) (filter (sees_row to) rs))) here.1)

-- what stands before those that the vectors may see differently moves nothing
pub moved_behind : (from to : List ℕ) (oid : ObjId) (id : ℕ) (rows back : List Row) → AreBehind from to rows back → moved from to oid id rows ≡ moved from to oid id back
moved_behind from to oid id rows back are =
    let parts = ap (moved from to oid id) are.split in
    let by_to = count_seen-append oid id to are.front back in
    let by_from = count_seen-append oid id from are.front back in
    let same = ap (count_of oid id) (seen_same from to are.front are.seen) in
    omega (arith, ints, parts, by_to, by_from, same)

-- with what is kept of an object it comes to what the vector sees of all rows
pub count_stands : (oid : ObjId) (id : ℕ) (floor : List ℕ) (kept : Kept) (rows : List Row) → StandsForRows oid floor kept rows → (from to : List ℕ) → Covers from floor → Covers to floor
    → count_of oid id (seen_updates from rows) +ℤ moved from to oid id kept.steps ≡ count_of oid id (seen_updates to rows)
count_stands oid id floor kept rows stands from to covers_from covers_to =
    let same = stands.counts to from covers_to covers_from id in
    omega (arith, ints, same)

-- rows move a count no further than twice their number
pub moved_within : (from to : List ℕ) (oid : ObjId) (id : ℕ) (steps : List Row) → ((pos 0 -ℤ pos (2 * length steps)) ≤ℤ moved from to oid id steps) × (moved from to oid id steps ≤ℤ pos (2 * length steps))
moved_within from to oid id steps =
    let low_to = low_count oid id (seen_updates to steps) in
    let high_to = high_count oid id (seen_updates to steps) in
    let low_from = low_count oid id (seen_updates from steps) in
    let high_from = high_count oid id (seen_updates from steps) in
    let seen_to = few_seen to steps in
    let seen_from = few_seen from steps in
    (omega (arith, ints, low_to, high_from, seen_to, seen_from), omega (arith, ints, high_to, low_from, seen_to, seen_from))

-- before the last step each count was moved so little that it can rise and fall by one
pub moved_room : (from to : List ℕ) (oid : ObjId) (id : ℕ) (steps : List Step) (i : ℕ) → length steps ≤ 2 ^ 61 → i < length steps
    → ((pos 0 -ℤ pos (2 ^ 63)) <ℤ moved from to oid id (told (take i steps))) × (moved from to oid id (told (take i steps)) <ℤ pos (2 ^ 63 - 1))
moved_room from to oid id steps i few within =
    let moves = moved_within from to oid id (told (take i steps)) in
    let long = length-map (take i steps) (λ (s : Step). s.row) in
    let front = length-take-le i steps (omega (arith, within)) in
    (omega (arith, ints, moves.0, long, front, few, within), omega (arith, ints, moves.1, long, front, few, within))
