-- A pack, as docs/FORMATS.md ("Two areas") says it: bodies of records, each behind its mark and its length. Of a body
-- with a start the zeros are left out that stand for sites which there aren't.
use Rattle.std.specs.Prelude.{◌≡◌, ◌<◌, ◌≤◌, ◌+◌, ◌==◌, ◌-◌, ◌*◌, nat_lt, if◌then◌else◌, ℕ, Bool, false, List, [], ◌∷◌, ◌++◌, length, take, drop, get_or, flat_map, All}
use Rattle.std.specs.List.{list_all}
use Rattle.byteorder.specs.Endian.{big_bytes}
use Rattle.walter_journal.specs.Layout.{record_of, IsShort}

abbrev pub are_zeros : List ℕ → Bool
are_zeros xs = list_all (λ x. x == 0) xs

-- the place behind the start in a record that begins with this byte; 0 where it has none
abbrev pub start_end : ℕ → ℕ
start_end kind = if kind == 2 then 94 else if kind == 3 then 95 else if kind == 7 then 94 else 0

-- how many bytes of a start stand for sites that there aren't, among so many
abbrev pub spare_of : ℕ → ℕ
spare_of sites = 64 - 8 * sites

-- how many bytes of a body stand in front of the zeros that may be left out
abbrev pub kept_in : ℕ → List ℕ → ℕ
kept_in sites body = start_end (get_or body 0 0) - spare_of sites

-- the zeros are there, and are left out
abbrev pub is_cut : ℕ → List ℕ → Bool
is_cut sites body =
    if nat_lt sites 8
    then if start_end (get_or body 0 0) == 0
    then false
    else if nat_lt (length body) (start_end (get_or body 0 0))
    then false
    else are_zeros (take (spare_of sites) (drop (kept_in sites body) body))
    else false

-- the body without them
abbrev pub cut : ℕ → List ℕ → List ℕ
cut sites body = take (kept_in sites body) body ++ drop (start_end (get_or body 0 0)) body

-- zeros can be put back into what is spelled without them: behind so many bytes of it, and so many
pub record HasGap (sites : ℕ) (spelled : List ℕ) (kept spare : ℕ) : Type 0 where
  pub few : sites < 8
  pub is_spare : spare ≡ spare_of sites
  pub start : start_end (get_or spelled 0 0) ≡ kept + spare
  pub some : 0 < kept
  pub there : kept ≤ length spelled
  pub short : length spelled + spare ≤ 65536

-- the entry of a body
abbrev pub entry_of : ℕ → List ℕ → List ℕ
entry_of sites body = if is_cut sites body then 1 ∷ record_of (cut sites body) else 0 ∷ record_of body

-- the entries of bodies
abbrev pub entries : ℕ → List (List ℕ) → List ℕ
entries sites bodies = flat_map (entry_of sites) bodies

-- the entries behind their length in eight bytes
abbrev pub pack_of : ℕ → List (List ℕ) → List ℕ
pack_of sites bodies = big_bytes 8 (length (entries sites bodies)) ++ entries sites bodies

-- the bytes are the entries of short bodies, and one byte more
pub record HasEntries (sites : ℕ) (bytes : List ℕ) (bodies : List (List ℕ)) : Type 0 where
  pub last : List ℕ
  pub one : length last ≡ 1
  pub is : bytes ≡ entries sites bodies ++ last
  pub short : All IsShort bodies

-- the first so many bytes are a pack of short bodies, and a byte follows
pub record HasPack (sites : ℕ) (bytes : List ℕ) (bodies : List (List ℕ)) (size : ℕ) : Type 0 where
  pub is : take size bytes ≡ pack_of sites bodies
  pub more : size < length bytes
  pub short : All IsShort bodies

-- what a pack begins an area with: a closed gate stands behind it
abbrev pub renewed_by : ℕ → List (List ℕ) → List ℕ
renewed_by sites bodies = pack_of sites bodies ++ 0 ∷ []
