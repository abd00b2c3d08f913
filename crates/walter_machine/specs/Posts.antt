-- Packets by their numbers, and the stamps of what they bring.
use Rattle.std.specs.Prelude.{◌+◌, ℕ, zero, suc, max, List, slice_get, Option, None}

-- the one of this number, counted from 1
abbrev pub of_number : {T : Type 0} → ℕ → List T → Option T
of_number zero posts = None
of_number (suc before) posts = slice_get posts before

-- the stamp of an entry behind this one; the packet that it brings was put out with the other, which is 0 where it brings
-- none
abbrev pub stamp_behind : (clock put : ℕ) → ℕ
stamp_behind clock put = max clock put + 1
