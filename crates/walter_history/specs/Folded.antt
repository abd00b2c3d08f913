-- What becomes of what is kept of an object: one row more, and a fold.
use Rattle.std.specs.Prelude.{◌≡◌, ℕ, ◌<◌, ◌-◌, true, not, List, [], ◌∷◌, ◌++◌, filter, slice_get, Option, Some, if◌then◌else◌}
use Rattle.walter_base.specs.declared.update.Row.{Row}
use Rattle.walter_history.specs.Kept.{Kept, is_write}
use Rattle.walter_history.specs.Rows.{sees_row, seen_updates, bytes_of}

-- a write with its version, or another change
abbrev pub appended : Row → Kept → Kept
appended row kept =
    if is_write row.update
    then record {
      value = kept.value;
      versions = kept.versions ++ row.version ∷ [];
      writes = kept.writes ++ row ∷ [];
      steps = kept.steps;
    }
    else record { value = kept.value; versions = kept.versions; writes = kept.writes; steps = kept.steps ++ row ∷ [] }

-- No write is seen, or the last that is goes into the value, and each before it goes, seen or not: whoever sees the
-- floor sees that one behind them.
pub data FoldsWrites (floor : List ℕ) (value : Option (List ℕ)) (writes : List Row)
    (value2 : Option (List ℕ)) (writes2 : List Row) : Type 0 where
  none_seen : value2 ≡ value → writes2 ≡ writes → FoldsWrites floor value writes value2 writes2
  last_seen : (front : List Row) (row : Row) → writes ≡ front ++ row ∷ writes2 → sees_row floor row ≡ true
      → value2 ≡ bytes_of row.update → FoldsWrites floor value writes value2 writes2

pub record Folds (floor : List ℕ) (old new : Kept) : Type 0 where
  pub writes : FoldsWrites floor old.value old.writes new.value new.writes
  pub none : seen_updates floor new.writes ≡ []
  pub steps : new.steps ≡ filter (λ row. not (sees_row floor row)) old.steps
  pub versions : new.versions ≡ old.versions

-- a front of so many rows is empty, or ends in one that the vector sees
abbrev pub IsFrontSeen : List ℕ → List Row → ℕ → Type 0
IsFrontSeen vector rows n = 0 < n → (row : Row) × (slice_get rows (n - 1) ≡ Some row) × (sees_row vector row ≡ true)
