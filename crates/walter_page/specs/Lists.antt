-- Lists with commas, piece by piece.
use Rattle.std.specs.Prelude.{ℕ, Bool, true, false, List, [], ◌∷◌, ◌++◌, codes}

-- what stands before a piece, where there are pieces before it and where there are none
abbrev pub comma_behind : Bool → List ℕ
comma_behind true = codes ","
comma_behind false = []

-- the pieces, with a comma before each but for the first of all
abbrev pub list_behind : Bool → List (List ℕ) → List ℕ
list_behind some [] = []
list_behind some (piece ∷ pieces) = comma_behind some ++ piece ++ list_behind true pieces

-- whether there are pieces then
abbrev pub has_pieces : Bool → List (List ℕ) → Bool
has_pieces some [] = some
has_pieces some (piece ∷ pieces) = true
