-- The ends of all lanes of a new bench, in rows by sender and in columns by receiver.
use Rattle.std.specs.Prelude.{◌≡◌, ◌<◌, ◌≤◌, ◌++◌, ◌∷◌, ℕ, List, [], Vec, length, map, slice_index_or}
use Rattle.std.specs.declared.alloc.Global.{Global}
use Rattle.walter_lane.specs.Lanes.{Sending, Receiving}
use Rattle.walter_outbox.specs.Lanes.{put_to, arrived_from, met_to, ring_to, ring_from}

abbrev pub rows_in : List (Vec Sending Global) → List (List Sending)
rows_in vs = map (λ (v : Vec Sending Global). v.items) vs

abbrev pub columns_in : List (Vec Receiving Global) → List (List Receiving)
columns_in vs = map (λ (v : Vec Receiving Global). v.items) vs

abbrev pub row_of : List (List Sending) → ℕ → List Sending
row_of rows from = slice_index_or rows from []

abbrev pub column_of : List (List Receiving) → ℕ → List Receiving
column_of columns to = slice_index_or columns to []

-- so many rows, and so many columns that have the other ends; nothing was put
pub record AreJoined (rows_made sites : ℕ) (rows : List (List Sending)) (columns : List (List Receiving)) : Type 0 where
  pub rows_long : length rows ≡ rows_made
  pub columns_long : length columns ≡ sites
  pub row_long : (from : ℕ) → from < rows_made → length (row_of rows from) ≡ sites
  pub column_long : (to : ℕ) → to < sites → length (column_of columns to) ≡ rows_made
  pub joined : (from to : ℕ) → from < rows_made → to < sites
      → ring_to (row_of rows from) to ≡ ring_from (column_of columns to) from
  pub none_put : (from to : ℕ) → put_to (row_of rows from) to ≡ []
  pub none_met : (from to : ℕ) → met_to (row_of rows from) to ≡ 0
  pub none_arrived : (to from : ℕ) → arrived_from (column_of columns to) from ≡ []

-- a row of so many ends, whose other ends came to the first columns; nothing was put
pub record AddsRow (before after : List (List Receiving)) (row : List Sending) (made : ℕ) : Type 0 where
  pub columns_long : length after ≡ length before
  pub row_long : length row ≡ made
  pub added : (to : ℕ) → to < made → (end : Receiving) × (column_of after to ≡ column_of before to ++ end ∷ [])
      × (ring_to row to ≡ end.ring) × (end.arrived ≡ [])
  pub none_put : (to : ℕ) → put_to row to ≡ []
  pub none_met : (to : ℕ) → met_to row to ≡ 0
  pub left : (to : ℕ) → made ≤ to → column_of after to ≡ column_of before to
