-- What the lines of a report and of a trace are made of.
use Rattle.std.specs.Prelude.{ℕ, List, [], ◌∷◌, codes}
use Rattle.std.specs.List.{join_with_byte}

abbrev pub comma : ℕ
comma = 44

abbrev pub line_feed : List ℕ
line_feed = 10 ∷ []

-- a dash in the place of nothing
abbrev pub or_dash : List ℕ → List ℕ
or_dash [] = codes "-"
or_dash (byte ∷ bytes) = byte ∷ bytes

-- pieces with a comma between each two, or a dash where there are none
abbrev pub listed : List (List ℕ) → List ℕ
listed [] = codes "-"
listed (piece ∷ pieces) = join_with_byte comma (piece ∷ pieces)
