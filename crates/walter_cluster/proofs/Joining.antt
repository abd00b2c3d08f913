-- The ends of lanes in rows and columns, a row at a time.
use Rattle.std.proofs.Common.{◌≡◌, ℕ, zero, suc, ◌<◌, ◌≤◌, ◌+◌, ◌++◌, ◌∷◌, ◌⊎◌, List, [], Vec, length, get_or, set, map, ap, sym, ◌∙◌, subst, inl, inr, arith, length-append}
use Rattle.std.specs.declared.alloc.Global.{Global}
use Rattle.std.proofs.lemmas.Bool.{cases_lt, cases_eq}
use Rattle.std.proofs.lemmas.List.{get_or_append_left, get_or_at, get_or-map, get_or-set_same, get_or-set_other, length-set, length-map, map-append, map-set}
use Rattle.walter_lane.specs.Lanes.{Sending, Receiving}
use Rattle.walter_outbox.specs.Lanes.{no_ring, put_to, met_to, arrived_from, ring_to, ring_from}
use Rattle.walter_cluster.specs.Lanes.{row_of, column_of, columns_in, AddsRow, AreJoined}

-- what holds of each element, and of what is read behind the last, holds with one element more
module _ {X : Type 0} (P : X → Type 0) (d x : X) where
  pub each_more : (xs : List X) → ((k : ℕ) → P (get_or xs k d)) → P x → (k : ℕ) → P (get_or (xs ++ x ∷ []) k d)
  each_more [] all here zero = here
  each_more [] all here (suc k) = all zero
  each_more (y ∷ ys) all here zero = all zero
  each_more (y ∷ ys) all here (suc k) = each_more ys (λ j. all (suc j)) here k

module _ {X Y : Type 0} (f : X → Y) (xs : List X) (x : X) (e : Y) where
  -- a field at the end, before it, and everywhere
  pub field_at_end : (n : ℕ) → length xs ≡ n → get_or (map f (xs ++ x ∷ [])) n e ≡ f x
  field_at_end n long = ap (λ l. get_or l n e) (map-append f xs (x ∷ [])) ∙ get_or_at (map f xs) (f x) [] e n (length-map xs f ∙ long)

  pub field_before_end : (k : ℕ) → k < length xs → get_or (map f (xs ++ x ∷ [])) k e ≡ get_or (map f xs) k e
  field_before_end k below = ap (λ l. get_or l k e) (map-append f xs (x ∷ [])) ∙ get_or_append_left (map f xs) (f x ∷ []) e k (omega (arith, below, length-map xs f))

  pub field_same : ((k : ℕ) → get_or (map f xs) k e ≡ e) → f x ≡ e → (k : ℕ) → get_or (map f (xs ++ x ∷ [])) k e ≡ e
  field_same all here k = ap (λ l. get_or l k e) (map-append f xs (x ∷ [])) ∙ each_more (λ y. y ≡ e) e (f x) (map f xs) all here k

module _ (before after : List (List Receiving)) (row : List Sending) (k : ℕ) (h : AddsRow before after row k) (s : Sending) (r : Receiving) (below : k < length before) where
  here : column_of (set after k (column_of after k ++ r ∷ [])) k ≡ column_of before k ++ r ∷ []
  here = get_or-set_same after k (column_of after k ++ r ∷ []) [] (omega (arith, below, h.columns_long)) ∙ ap (λ l. l ++ r ∷ []) (h.left k (omega arith))

  elsewhere : (to : ℕ) → (to ≡ k → ⊥) → column_of (set after k (column_of after k ++ r ∷ [])) to ≡ column_of after to
  elsewhere to apart = get_or-set_other after k to (column_of after k ++ r ∷ []) [] apart

  added_by : s.ring ≡ r.ring → r.arrived ≡ [] → (to : ℕ) → (to ≡ k) ⊎ (to ≡ k → ⊥) → to < k + 1
      → (end : Receiving) × (column_of (set after k (column_of after k ++ r ∷ [])) to ≡ column_of before to ++ end ∷ []) × (ring_to (row ++ s ∷ []) to ≡ end.ring) × (end.arrived ≡ [])
  added_by same fresh to (inl is) lt =
      let P : ℕ → Type 0 = λ t. (end : Receiving) × (column_of (set after k (column_of after k ++ r ∷ [])) t ≡ column_of before t ++ end ∷ []) × (ring_to (row ++ s ∷ []) t ≡ end.ring) × (end.arrived ≡ []) in
      subst P (sym is) (r, here, field_at_end (λ (x : Sending). x.ring) row s no_ring k h.row_long ∙ same, fresh)
  added_by same fresh to (inr apart) lt =
      let old = h.added to (omega (arith, lt, apart)) in
      (old.0, elsewhere to apart ∙ old.1, field_before_end (λ (x : Sending). x.ring) row s no_ring to (omega (arith, lt, apart, h.row_long)) ∙ old.2, old.3)

  -- a lane more in the row
  pub row_more : s.ring ≡ r.ring → s.put ≡ [] → s.met ≡ 0 → r.arrived ≡ [] → AddsRow before (set after k (column_of after k ++ r ∷ [])) (row ++ s ∷ []) (k + 1)
  row_more same put met fresh = record {
    columns_long = length-set after k (column_of after k ++ r ∷ []) ∙ h.columns_long;
    row_long = omega (arith, length-append row (s ∷ []), h.row_long);
    added = λ to lt. added_by same fresh to (cases_eq to k) lt;
    none_put = field_same (λ (x : Sending). x.put) row s [] h.none_put put;
    none_met = field_same (λ (x : Sending). x.met) row s 0 h.none_met met;
    left = λ to past. elsewhere to (λ is. absurd (omega (arith, is, past))) ∙ h.left to (omega (arith, past));
  }

module _ (n m : ℕ) (rows : List (List Sending)) (before after : List (List Receiving)) (row : List Sending) (h : AreJoined m n rows before) (a : AddsRow before after row n) where
  row_at : row_of (rows ++ row ∷ []) m ≡ row
  row_at = get_or_at rows row [] [] m h.rows_long

  row_before : (from : ℕ) → from < m → row_of (rows ++ row ∷ []) from ≡ row_of rows from
  row_before from lt = get_or_append_left rows (row ∷ []) [] from (omega (arith, lt, h.rows_long))

  longs : (from : ℕ) → (from < m) ⊎ (m ≤ from) → from < m + 1 → length (row_of (rows ++ row ∷ []) from) ≡ n
  longs from (inl lt) _ = ap length (row_before from lt) ∙ h.row_long from lt
  longs from (inr past) below =
      let is : from ≡ m = omega (arith, past, below) in
      ap (λ f. length (row_of (rows ++ row ∷ []) f)) is ∙ ap length row_at ∙ a.row_long

  joins : (from to : ℕ) → (from < m) ⊎ (m ≤ from) → from < m + 1 → to < n → ring_to (row_of (rows ++ row ∷ []) from) to ≡ ring_from (column_of after to) from
  joins from to (inl lt) _ within =
      let end = a.added to within in
      ap (λ l. ring_to l to) (row_before from lt) ∙ h.joined from to lt within
      ∙ sym (field_before_end (λ (r : Receiving). r.ring) (column_of before to) end.0 no_ring from (omega (arith, lt, h.column_long to within)))
      ∙ ap (λ l. ring_from l from) (sym end.1)
  joins from to (inr past) below within =
      let end = a.added to within in
      let is : from ≡ m = omega (arith, past, below) in
      let P : ℕ → Type 0 = λ f. ring_to (row_of (rows ++ row ∷ []) f) to ≡ ring_from (column_of after to) f in
      subst P (sym is) (
      ap (λ l. ring_to l to) row_at ∙ end.2
      ∙ sym (field_at_end (λ (r : Receiving). r.ring) (column_of before to) end.0 no_ring m (h.column_long to within))
      ∙ ap (λ l. ring_from l m) (sym end.1)
      )

  none_arrives : (to from : ℕ) → (to < n) ⊎ (n ≤ to) → arrived_from (column_of after to) from ≡ []
  none_arrives to from (inl lt) =
      let end = a.added to lt in
      ap (λ l. arrived_from l from) end.1 ∙ field_same (λ (r : Receiving). r.arrived) (column_of before to) end.0 [] (h.none_arrived to) end.3 from
  none_arrives to from (inr past) = ap (λ l. arrived_from l from) (a.left to past) ∙ h.none_arrived to from

  -- a row more
  pub joined_more : AreJoined (m + 1) n (rows ++ row ∷ []) after
  joined_more = record {
    rows_long = omega (arith, length-append rows (row ∷ []), h.rows_long);
    columns_long = a.columns_long ∙ h.columns_long;
    row_long = λ from lt. longs from (cases_lt from m) lt;
    column_long = λ to lt. ap length (a.added to lt).1 ∙ omega (arith, length-append (column_of before to) ((a.added to lt).0 ∷ []), h.column_long to lt);
    joined = λ from to lt within. joins from to (cases_lt from m) lt within;
    none_put = λ from to. each_more (λ r. put_to r to ≡ []) [] row rows (λ k. h.none_put k to) (a.none_put to) from;
    none_met = λ from to. each_more (λ r. met_to r to ≡ 0) [] row rows (λ k. h.none_met k to) (a.none_met to) from;
    none_arrived = λ to from. none_arrives to from (cases_lt to n);
  }

-- an end comes to one of the columns
pub columns_pushed : (vs : List (Vec Receiving Global)) (k : ℕ) (v w : Vec Receiving Global) (r : Receiving) → k < length vs → v ≡ get_or vs k v → w.items ≡ v.items ++ r ∷ []
    → columns_in (set vs k w) ≡ set (columns_in vs) k (column_of (columns_in vs) k ++ r ∷ [])
columns_pushed vs k v w r below is e =
    let items : Vec Receiving Global → List Receiving = λ u. u.items in
    map-set items vs k w ∙ ap (set (columns_in vs) k) (e ∙ ap (λ l. l ++ r ∷ []) (sym (get_or-map items vs k v [] below ∙ ap items (sym is))))

-- a column more without ends
pub empty_more : (vs : List (Vec Receiving Global)) (v : Vec Receiving Global) → v.items ≡ [] → ((k : ℕ) → column_of (columns_in vs) k ≡ []) → (k : ℕ) → column_of (columns_in (vs ++ v ∷ [])) k ≡ []
empty_more vs v none all k = field_same (λ (u : Vec Receiving Global). u.items) vs v [] all none k
