-- How the counts of a set are spelled, and what is wrong with bytes that spell none (docs/FORMATS.md, "Frames of a
-- client").
use Rattle.std.specs.Prelude.{◌≡◌, ◌≢◌, ◌<◌, ◌≤◌, ◌^◌, ◌+◌, ◌*◌, ℕ, ℤ, pos, List, ◌++◌, length, drop, flat_map, All, AllPairs, FitsSigned}
use Rattle.std.specs.Int.{w64}
use Rattle.walter_fields.specs.Spellings.{number_spelled, number_read, signed_spelled}

-- an id, and its count
abbrev pub entry_spelled : ℕ × ℤ → List ℕ
entry_spelled entry = number_spelled 8 entry.0 ++ signed_spelled entry.1

-- how many entries there are, and the entries
abbrev pub counts_spelled : List (ℕ × ℤ) → List ℕ
counts_spelled counts = number_spelled 4 (length counts) ++ flat_map entry_spelled counts

-- the numbers of an entry are in the ranges of their fields
abbrev pub IsEntry : ℕ × ℤ → Type 0
IsEntry entry = (entry.0 < 2 ^ 64) × FitsSigned w64 entry.1

-- right entries: each is one, the ids rise, and no count is 0
pub record AreEntries (counts : List (ℕ × ℤ)) : Type 0 where
  pub ranges : All IsEntry counts
  pub rising : AllPairs (λ a b. a.0 < b.0) counts
  pub counted : All (λ entry. entry.1 ≢ pos 0) counts

-- a Set has right entries, and at most 4,095
abbrev pub AreRightCounts : List (ℕ × ℤ) → Type 0
AreRightCounts counts = AreEntries counts × (length counts ≤ 4095)

-- the id is above those of the entries
abbrev pub IsAbove : List (ℕ × ℤ) → ℕ → Type 0
IsAbove entries id = All (λ entry. entry.0 < id) entries

-- the bytes begin with no entry that may follow these, and this is the place of what is wrong: their length where the id
-- or the count runs past their end; that of an id that isn't above the ids before it; that of a count that is 0
pub data IsBadEntry (before : List (ℕ × ℤ)) (bytes : List ℕ) (at : ℕ) : Type 0 where
  short_id : length bytes < 8 → at ≡ length bytes → IsBadEntry before bytes at
  falls : 8 ≤ length bytes → ¬ IsAbove before (number_read 8 bytes) → at ≡ 0 → IsBadEntry before bytes at
  short_count : 8 ≤ length bytes → length bytes < 16 → IsAbove before (number_read 8 bytes) → at ≡ length bytes → IsBadEntry before bytes at
  zero_count : (rest : List ℕ) → 8 ≤ length bytes → IsAbove before (number_read 8 bytes) → drop 8 bytes ≡ signed_spelled (pos 0) ++ rest → at ≡ 8 → IsBadEntry before bytes at

-- the bytes begin with no counts, and this is the place of what is wrong: their length where the number of entries runs
-- past their end; 0 where this number is too high; or a place behind right entries that are fewer, where none follows
pub data IsBadCounts (bytes : List ℕ) (at : ℕ) : Type 0 where
  short : length bytes < 4 → at ≡ length bytes → IsBadCounts bytes at
  many : 4 ≤ length bytes → 4095 < number_read 4 bytes → at ≡ 0 → IsBadCounts bytes at
  entry : (n : ℕ) (before : List (ℕ × ℤ)) (rest : List ℕ) (place : ℕ) → bytes ≡ number_spelled 4 n ++ (flat_map entry_spelled before ++ rest) → n ≤ 4095 → length before < n → AreEntries before → IsBadEntry before rest place
      → at ≡ 4 + 16 * length before + place → IsBadCounts bytes at
