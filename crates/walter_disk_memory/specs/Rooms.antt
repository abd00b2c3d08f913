-- Room for a content: how far its bytes may reach, and how many writes may be added.
use Rattle.std.specs.Prelude.{ℕ, ◌+◌, min, max, List, [], ◌∷◌}
use Rattle.walter_disk_memory.specs.declared.place.Place.{Place}
use Rattle.walter_disk_memory.specs.Contents.{Content}

pub record Held : Type 0 where
  pub content : Content
  pub end : ℕ
  pub slots : ℕ

-- how far the places reach
abbrev pub reach : List Place → ℕ
reach [] = 0
reach (place ∷ places) = max (place.at + place.count) (reach places)

-- where the first of the places begins, or this end where there are none
abbrev pub start : ℕ → List Place → ℕ
start end [] = end
start end (place ∷ places) = min place.at (start end places)
