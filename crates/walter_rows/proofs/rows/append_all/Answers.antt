use Rattle.std.proofs.Common.{◌≡◌, ℕ, ◌+◌, ◌<◌, ◌≤◌, Bool, true, false, cond, List, [], ◌∷◌, ◌++◌, length, map, get_or, take, drop, refl, sym, ap, ◌∙◌, subst, arith, rules, if◌then◌else◌}
use Rattle.std.proofs.lemmas.Iterator.Adapters.{YieldsList-from_vec}
use Rattle.std.proofs.lemmas.Iterator.Consumers.{YieldsList-turn, YieldsList-end}
use Rattle.std.proofs.lemmas.List.{take_all, append-nil, append_assoc, at_drop_more, length_push, take_more}
use Rattle.std.proofs.lemmas.List.Elements.{All-push, All-head, All-tail, All-weaker, filter-append}
use Rattle.std.proofs.lemmas.List.Sums.{sum_by-cons}
use Rattle.walter_base.specs.declared.names.ObjId.{ObjId}
use Rattle.walter_base.specs.declared.update.Row.{Row}
use Rattle.walter_base.specs.declared.update.Update.{Update}
use Rattle.walter_base.specs.Names.{same_object}
use Rattle.walter_base.proofs.NameTests.{same_object-true, same_object_refl}
use Rattle.walter_history.specs.Folded.{appended}
use Rattle.walter_history.specs.Kept.{StandsForRows}
use Rattle.walter_history.specs.Lines.{Table, kept_of, room_of}
use Rattle.walter_history.proofs.Standing.{stands_appended}
use Rattle.walter_base.specs.Values.{object_of}
use Rattle.walter_rows.specs.Rows.{changes, rows_on, rows_in, count_on, HasDeclared, HaveRoom}
use Rattle.walter_rows.proofs.HeldRows.{rows_in-push}
use Rattle.walter_rows.proofs.rows.append_all.Goals as goal

abbrev updates_in : List Row → List Update
updates_in rows = map (λ (r : Row). r.update) rows

-- the room that one object has is less by one, and the others have theirs
abbrev IsRoomLess : Table → Table → ObjId → Type 0
IsRoomLess old new oid = (other : ObjId) → (if same_object oid other then room_of old oid else room_of old other + 1) ≤ room_of new other + 1

-- the row at a place has room, with those behind it
room_from : (history : Table) (rows : List Row) (n : ℕ) (row : Row) → n < length rows → row ≡ get_or rows n row → HaveRoom history (updates_in (drop n rows))
    → HaveRoom history (updates_in (row ∷ drop (n + 1) rows))
room_from history rows n row within is room =
    let here = at_drop_more (λ rs. rs) rows n row within ∙ ap (λ (r : Row). r ∷ drop (n + 1) rows) (sym is) in
    subst (λ rs. HaveRoom history (updates_in rs)) here room

-- one update more
counted : (oid : ObjId) (update : Update) (rest : List Update) → count_on oid (update ∷ rest) ≡ cond (changes oid update) 1 0 + count_on oid rest
counted oid update rest = sum_by-cons (λ (u : Update). cond (changes oid u) 1 0) update rest

room_here : (history : Table) (row : Row) (rest : List Row) → HaveRoom history (updates_in (row ∷ rest)) → 0 < room_of history (object_of row.update)
room_here history row rest room =
    let oid = object_of row.update in
    let updates = updates_in (row ∷ rest) in
    let first : count_on oid updates ≤ room_of history oid = All-head (λ (u : Update). count_on (object_of u) updates ≤ room_of history (object_of u)) row.update (updates_in rest) room in
    let one : count_on oid updates ≡ 1 + count_on oid (updates_in rest) = counted oid row.update (updates_in rest) ∙ ap (λ (b : Bool). cond b 1 0 + count_on oid (updates_in rest)) (same_object_refl oid) in
    omega (arith, first, one)

room_behind : (old new : Table) (row : Row) (rest : List Row) → HaveRoom old (updates_in (row ∷ rest)) → IsRoomLess old new (object_of row.update) → HaveRoom new (updates_in rest)
room_behind old new row rest room less =
    let Old : Update → Type 0 = λ (u : Update). count_on (object_of u) (updates_in (row ∷ rest)) ≤ room_of old (object_of u) in
    let New : Update → Type 0 = λ (u : Update). count_on (object_of u) (updates_in rest) ≤ room_of new (object_of u) in
    All-weaker Old New one (updates_in rest) (All-tail Old row.update (updates_in rest) room)
  where
    left : (n m : ℕ) (at : ObjId) → cond (same_object (object_of row.update) at) 1 0 + n ≤ room_of old at → (if same_object (object_of row.update) at then room_of old (object_of row.update) else room_of old at + 1) ≤ m + 1 → n ≤ m
    left n m at had is = by (same_object (object_of row.update) at) refl had is
      where
        by : (b : Bool) → same_object (object_of row.update) at ≡ b → cond b 1 0 + n ≤ room_of old at → (if b then room_of old (object_of row.update) else room_of old at + 1) ≤ m + 1 → n ≤ m
        by true same had now = let here = ap (room_of old) (same_object-true (object_of row.update) at same) in omega (arith, had, now, here)
        by false other had now = omega (arith, had, now)

    one : (u : Update) → count_on (object_of u) (updates_in (row ∷ rest)) ≤ room_of old (object_of u) → count_on (object_of u) (updates_in rest) ≤ room_of new (object_of u)
    one u had =
        let at = object_of u in
        let more = subst (λ (n : ℕ). n ≤ room_of old at) (counted at row.update (updates_in rest)) had in
        left (count_on at (updates_in rest)) (room_of new at) at more (less at)

-- one row more of its object
stands_more : (old new : Table) (row : Row) (oid other : ObjId) (floor : List ℕ) → oid ≡ object_of row.update
    → kept_of new other ≡ (if same_object oid other then appended row (kept_of old oid) else kept_of old other)
    → (told : List Row) → StandsForRows other floor (kept_of old other) told → StandsForRows other floor (kept_of new other) (told ++ rows_on other (row ∷ []))
stands_more old new row oid other floor own is told stands =
    subst (λ kept. StandsForRows other floor kept (told ++ rows_on other (row ∷ []))) (sym is)
    (subst (λ (at : ObjId). StandsForRows other floor (if same_object oid other then appended row (kept_of old oid) else kept_of old other) (told ++ cond (same_object at other) (row ∷ []) [])) own
    (by (same_object oid other) refl))
  where
    by : (b : Bool) → same_object oid other ≡ b → StandsForRows other floor (if b then appended row (kept_of old oid) else kept_of old other) (told ++ cond b (row ∷ []) [])
    by true same = subst (λ (at : ObjId). StandsForRows other floor (appended row (kept_of old at)) (told ++ row ∷ [])) (sym (same_object-true oid other same)) (stands_appended other floor (kept_of old other) told stands row)
    by false apart = subst (StandsForRows other floor (kept_of old other)) (sym (append-nil told)) stands

rows_on-more : (oid : ObjId) (rows : List Row) (n : ℕ) (row : Row) → n < length rows → row ≡ get_or rows n row → rows_on oid (take (n + 1) rows) ≡ rows_on oid (take n rows) ++ rows_on oid (row ∷ [])
rows_on-more oid rows n row within is =
    ap (rows_on oid) (take_more rows n row within ∙ ap (λ (r : Row). take n rows ++ r ∷ []) (sym is))
    ∙ filter-append (λ r. changes oid r.update) (take n rows) (row ∷ [])

pub append-requires-clause-room : goal.append-requires-clause-room
append-requires-clause-room c =
    let rows = c.args.rows.items in
    let turn = YieldsList-turn (YieldsList-from_vec rows (search rules) (search rules)) c.loop-row.yielded c.loop-row.row-iterator c.loop-row.yielded_by c.next.result c.next.new.self c.in-Some.row c.in-Some.is c.next.ensures.steps in
    let room = room_from c.loop-row.history rows (length c.loop-row.yielded) c.in-Some.row turn.0 turn.1 c.loop-row.invariant.room in
    subst (λ (at : ObjId). 0 < room_of c.loop-row.history at) (sym c.object.ensures) (room_here c.loop-row.history c.in-Some.row _ room)

pub loop-row-preserved : goal.loop-row-preserved
loop-row-preserved c =
    let rows = c.args.rows.items in
    let old = c.loop-row.history in
    let new = c.append.new.self in
    let n = length c.loop-row.yielded in
    let row = c.in-Some.row in
    let turn = YieldsList-turn (YieldsList-from_vec rows (search rules) (search rules)) c.loop-row.yielded c.loop-row.row-iterator c.loop-row.yielded_by c.next.result c.next.new.self row c.in-Some.is c.next.ensures.steps in
    let more : length (c.loop-row.yielded ++ row ∷ []) ≡ n + 1 = length_push c.loop-row.yielded row in
    let room = room_from old rows n row turn.0 turn.1 c.loop-row.invariant.room in
    record {
      stands = λ oid told was.
          subst (StandsForRows oid c.args.history.now.floor (kept_of new oid))
          (append_assoc told (rows_on oid (take n rows)) (rows_on oid (row ∷ []))
          ∙ ap (λ behind. told ++ behind) (sym (rows_on-more oid rows n row turn.0 turn.1) ∙ ap (λ k. rows_on oid (take k rows)) (sym more)))
          (stands_more old new row c.object.result oid c.args.history.now.floor c.object.ensures (c.append.ensures.kept oid) (told ++ rows_on oid (take n rows)) (c.loop-row.invariant.stands oid told was));
      floor = c.append.ensures.floor ∙ c.loop-row.invariant.floor;
      room = subst (λ k. HaveRoom new (updates_in (drop k rows))) (sym more) (room_behind old new row (drop (n + 1) rows) room (subst (IsRoomLess old new) c.object.ensures c.append.ensures.room));
    }

pub returns-clause-stands : goal.returns-clause-stands
returns-clause-stands c = λ oid told was.
    let rows = c.args.rows.items in
    let end = YieldsList-end (YieldsList-from_vec rows (search rules) (search rules)) c.loop-row.yielded c.loop-row.row-iterator c.loop-row.yielded_by c.next.result c.next.new.self c.in-None.is c.next.ensures.steps in
    let all = take_all (length c.loop-row.yielded) rows (omega (arith, end.1)) in
    subst (λ (rs : List Row). StandsForRows oid c.args.history.now.floor (kept_of c.loop-row.history oid) (told ++ rows_on oid rs)) all (c.loop-row.invariant.stands oid told was)

pub returns-clause-held : goal.returns-clause-held
returns-clause-held c = λ catalog log h is declared are.
    let rows = c.args.rows.items in
    let end = YieldsList-end (YieldsList-from_vec rows (search rules) (search rules)) c.loop-row.yielded c.loop-row.row-iterator c.loop-row.yielded_by c.next.result c.next.new.self c.in-None.is c.next.ensures.steps in
    let all = take_all (length c.loop-row.yielded) rows (omega (arith, end.1)) in
    record {
      stand = λ oid.
          subst (λ fl. StandsForRows oid fl (kept_of c.loop-row.history oid) (rows_in oid (log ++ h ∷ []))) (sym c.loop-row.invariant.floor)
          (subst (λ (rs : List Row). StandsForRows oid c.args.history.now.floor (kept_of c.loop-row.history oid) rs)
          (ap (λ rs. rows_in oid log ++ rows_on oid rs) (all ∙ is) ∙ sym (rows_in-push oid log h))
          (c.loop-row.invariant.stands oid (rows_in oid log) (are.stand oid)));
      declared = All-push (HasDeclared catalog) log h are.declared declared;
    }
