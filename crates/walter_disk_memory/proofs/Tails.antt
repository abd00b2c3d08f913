-- Bytes of which the first are shared, and what a write behind these changes.
use Rattle.std.proofs.Common.{◌≡◌, ◌+◌, ◌-◌, ◌≤◌, ◌<◌, ℕ, min, max, List, [], ◌∷◌, ◌++◌, length, take, drop, replicate, refl, sym, ap, ◌∙◌, inl, inr, arith, append_assoc, length-append}
use Rattle.std.proofs.Math.Seq.{take-append-add, drop-append-add}
use Rattle.std.proofs.lemmas.Bool.{cases_lt, cond-false, lt-leb}
use Rattle.std.proofs.lemmas.Grind.{common_steps}
use Rattle.std.proofs.lemmas.List.{take_at, take-take, length-take-le, take-append-drop}
use Rattle.std.proofs.lemmas.Slice.{between_is}
use Rattle.std.specs.Prelude.{nat_le}
use Rattle.walter_disk.specs.Disks.{laid}
use Rattle.walter_disk_memory.specs.declared.place.Place.{Place}
use Rattle.walter_disk_memory.specs.Contents.{put, filled}
use Rattle.walter_disk_memory.specs.Rooms.{start}
use Rattle.walter_disk_memory.proofs.Moments.{put_within}
use Rattle.walter_disk_memory.proofs.Reaches.{reach_more}

-- the bytes between two ends, behind those up to the first
joined : (low high : ℕ) (bytes : List ℕ) → low ≤ high
    → take low bytes ++ take (high - low) (drop low bytes) ≡ take high bytes
joined low high bytes below =
    rw (between_is bytes low high, ← (take-take low high bytes below)) (take-append-drop low (take high bytes))

-- where fewer are shared, the others stand in front of the tail
pub lowered : (low high : ℕ) (bytes tail : List ℕ) → low ≤ high
    → take low bytes ++ (take (high - low) (drop low bytes) ++ tail) ≡ take high bytes ++ tail
lowered low high bytes tail below =
    sym (append_assoc (take low bytes) (take (high - low) (drop low bytes)) tail)
    ∙ ap (λ (shared : List ℕ). shared ++ tail) (joined low high bytes below)

laid_behind : (at : ℕ) (from shared tail : List ℕ)
    → laid (length shared + at) from (shared ++ tail) ≡ shared ++ laid at from tail
laid_behind at from shared tail = grind (arith, common_steps, take-append-add, drop-append-add)

put_beyond : (at : ℕ) (from bytes : List ℕ) → length bytes < at → put at from bytes ≡ bytes
put_beyond at from bytes beyond =
    cond-false (nat_le at (length bytes)) (laid at from bytes) bytes (lt-leb at (length bytes) beyond)

-- a write behind some bytes is one to the tail
put_behind : (at : ℕ) (from shared tail : List ℕ)
    → put (length shared + at) from (shared ++ tail) ≡ shared ++ put at from tail
put_behind at from shared tail =
    let behind : List ℕ → List ℕ = λ rest. shared ++ rest in
    elim (cases_lt (length tail) at) [
      | inl beyond ↦
          put_beyond (length shared + at) from (shared ++ tail) (omega (arith, length-append shared tail))
          ∙ ap behind (sym (put_beyond at from tail beyond))
      | inr within ↦
          put_within (length shared + at) from (shared ++ tail) (omega (arith, length-append shared tail))
          ∙ laid_behind at from shared tail
          ∙ ap behind (sym (put_within at from tail within))
    ]

-- so it is where fewer are shared first
pub put_lowered : (low high at : ℕ) (from bytes tail : List ℕ) → low ≤ high → low ≤ at → high ≤ length bytes
    → take low bytes ++ put (at - low) from (take (high - low) (drop low bytes) ++ tail)
    ≡ put at from (take high bytes ++ tail)
put_lowered low high at from bytes tail below behind within =
    let shared = take low bytes in
    let is : length shared + (at - low) ≡ at = omega (arith, length-take-le low bytes (omega arith)) in
    sym (put_behind (at - low) from shared (take (high - low) (drop low bytes) ++ tail))
    ∙ ap (λ (place : ℕ). put place from (shared ++ (take (high - low) (drop low bytes) ++ tail))) is
    ∙ ap (λ (all : List ℕ). put at from all) (lowered low high bytes tail below)

-- a write leaves the bytes in front of it, and no fewer than there were
pub take-put : (count at : ℕ) (from bytes : List ℕ) → count ≤ at → take count (put at from bytes) ≡ take count bytes
take-put count at from bytes behind = grind (arith, common_steps)

length-put : (at : ℕ) (from bytes : List ℕ) → length bytes ≤ length (put at from bytes)
length-put at from bytes = grind (arith, common_steps)

-- so do writes of one byte all over some places
take-filled : (byte count end : ℕ) (places : List Place) (bytes : List ℕ) → count ≤ start end places
    → take count (filled byte places bytes) ≡ take count bytes
take-filled byte count end [] bytes behind = refl
take-filled byte count end (place ∷ places) bytes behind =
    let from = replicate place.count byte in
    take-filled byte count end places (put place.at from bytes) (omega arith)
    ∙ take-put count place.at from bytes (omega arith)

length-filled : (byte : ℕ) (places : List Place) (bytes : List ℕ) → length bytes ≤ length (filled byte places bytes)
length-filled byte [] bytes = omega arith
length-filled byte (place ∷ places) bytes =
    let from = replicate place.count byte in
    omega (arith, length-put place.at from bytes, length-filled byte places (put place.at from bytes))

-- and so do these where the bytes had another tail before
pub take-filled_tail : (byte count end : ℕ) (places : List Place) (bytes tail : List ℕ)
    → count ≤ start end places → count ≤ length bytes
    → take count (filled byte places (take count bytes ++ tail)) ≡ take count bytes
take-filled_tail byte count end places bytes tail behind within =
    take-filled byte count end places (take count bytes ++ tail) behind
    ∙ take_at (take count bytes) tail count (length-take-le count bytes within)

pub length-filled_tail : (byte count : ℕ) (places : List Place) (bytes tail : List ℕ) → count ≤ length bytes
    → count ≤ length (filled byte places (take count bytes ++ tail))
length-filled_tail byte count places bytes tail within =
    let shared = take count bytes in
    let fits : length shared ≡ count = length-take-le count bytes within in
    omega (arith, length-filled byte places (shared ++ tail), length-append shared tail)

-- where the first of the places begins, after one more, and up to a further end
pub start_more : (places : List Place) (place : Place) (end : ℕ)
    → start end (places ++ place ∷ []) ≡ min (start end places) place.at
start_more [] place end = omega arith
start_more (p ∷ places) place end = omega (arith, start_more places place end)

pub start_further : (low high : ℕ) (places : List Place) → start low places ≤ start (max low high) places
start_further low high [] = omega arith
start_further low high (p ∷ places) = omega (arith, start_further low high places)

-- what writes and settles leave
pub ruleset writes = (lowered, put_lowered, take-put, take-filled_tail, length-filled_tail, start_more, reach_more)
