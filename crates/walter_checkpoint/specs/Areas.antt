-- The bytes of a book, as docs/FORMATS.md ("Two areas") says them. Of one area it is a journal. Of two areas it has a
-- header, a switch byte, and then two areas of the same size, of which one is live: B where the byte is 1, else A. An
-- area has a pack and, behind it, the gates and records of a journal.
use Rattle.std.specs.Prelude.{◌≡◌, ◌≢◌, ◌⊎◌, ◌+◌, ◌-◌, ◌/◌, ◌<◌, ◌≤◌, ℕ, min, List, [], ◌∷◌, ◌++◌, length, take, drop, All}
use Rattle.byteorder.specs.Endian.{big_number}
use Rattle.walter_base.specs.declared.format.Format.{Format}
use Rattle.walter_base.specs.Sizes.{most_in}
use Rattle.walter_checkpoint.specs.Packs.{pack_of}
use Rattle.walter_journal.specs.Layout.{digit_of, header_in, span_of, IsShort, HasBehind, IsDamagedBehind}
use Rattle.walter_journal.specs.Layout as journal

-- "WALTERK1", or "WALTERK2" where the records are of the second format
abbrev pub header_of_two : Format → List ℕ
header_of_two format = 0x57 ∷ 0x41 ∷ 0x4C ∷ 0x54 ∷ 0x45 ∷ 0x52 ∷ 0x4B ∷ digit_of format ∷ []

-- how a book lies on its disk, beside the bodies that it has
pub record Shape : Type 0 where
  -- the place that its bytes may not pass
  pub capacity : ℕ
  -- how many sites there are
  pub sites : ℕ
  -- the format that its header names
  pub header : Format

abbrev pub shape_by : ℕ → ℕ → Format → Shape
shape_by capacity sites header = record { capacity = capacity; sites = sites; header = header }

-- how many bytes each of two areas has
abbrev pub area_size : Shape → ℕ
area_size shape = (shape.capacity - 9) / 2

-- the bytes from the place of an area on: a pack, and behind it gates and records, within the area
pub record HasArea (shape : Shape) (bytes : List ℕ) (bodies : List (List ℕ)) : Type 0 where
  pub packed : List (List ℕ)
  pub behind : List (List ℕ)
  pub are : bodies ≡ packed ++ behind
  pub short : All IsShort packed
  pub content : HasBehind (pack_of shape.sites packed) bytes behind
  pub within : length (pack_of shape.sites packed) + span_of behind ≤ area_size shape

-- the area that the switch byte makes live has these bodies, where these bytes stand behind it
abbrev pub IsLive : Shape → ℕ → List ℕ → List (List ℕ) → Type 0
IsLive shape switch areas bodies =
    ((switch ≢ 1) × HasArea shape areas bodies) ⊎ ((switch ≡ 1) × HasArea shape (drop (area_size shape) areas) bodies)

-- the bytes of a book of two areas with these bodies
pub record HasTwo (shape : Shape) (bytes : List ℕ) (bodies : List (List ℕ)) : Type 0 where
  pub least : 47 ≤ shape.capacity
  pub switch : ℕ
  pub areas : List ℕ
  pub is : bytes ≡ header_of_two shape.header ++ switch ∷ areas
  pub live : IsLive shape switch areas bodies

-- the bytes of a book with these bodies
abbrev pub HasContent : Shape → List ℕ → List (List ℕ) → Type 0
HasContent shape bytes bodies = journal.HasContent shape.header bytes bodies ⊎ HasTwo shape bytes bodies

-- with these bodies, or with one more behind them
abbrev pub IsBeforeOrBehind : Shape → List (List ℕ) → List ℕ → List ℕ → Type 0
IsBeforeOrBehind shape bodies body image = HasContent shape image bodies ⊎ HasContent shape image (bodies ++ body ∷ [])

-- they begin as no book does whose format has places for so many sites, or as one of two areas where the capacity is
-- too small for these
abbrev pub IsForeign : (capacity sites : ℕ) → List ℕ → Type 0
IsForeign capacity sites bytes =
    (length bytes < 9)
    ⊎ ((header : Format) → sites ≤ most_in header
    → (take 8 bytes ≢ header_in header) × ((take 8 bytes ≢ header_of_two header) ⊎ (capacity < 47)))

-- no list of bodies is packed at the front of these bytes, with a byte behind it
abbrev pub HasNoPack : ℕ → List ℕ → Type 0
HasNoPack sites area =
    (packed : List (List ℕ)) (rest : List ℕ) → All IsShort packed → 0 < length rest
    → area ≢ pack_of sites packed ++ rest

-- The length of a pack as it is told: 0 where not all of its eight bytes are there, and no more than four bytes hold.
abbrev pub IsToldLength : List ℕ → ℕ → Type 0
IsToldLength area told =
    ((length area < 8) × (told ≡ 0)) ⊎ ((8 ≤ length area) × (told ≡ min (big_number 8 area) 0xFFFFFFFF))

-- behind a pack an open gate is followed by a length that claims too much
pub record IsGateWrong (sites : ℕ) (area : List ℕ) (at claimed : ℕ) : Type 0 where
  pub packed : List (List ℕ)
  pub short : All IsShort packed
  pub wrong : IsDamagedBehind (pack_of sites packed) area at claimed

-- an area is damaged, at this place in it
abbrev pub IsAreaDamaged : ℕ → List ℕ → ℕ → ℕ → Type 0
IsAreaDamaged sites area at claimed =
    (HasNoPack sites area × (at ≡ 0) × IsToldLength area claimed) ⊎ IsGateWrong sites area at claimed

-- the live area is damaged, as far as the bytes and its size reach
pub record IsTwoDamaged (shape : Shape) (bytes : List ℕ) (at claimed : ℕ) : Type 0 where
  pub least : 47 ≤ shape.capacity
  pub switch : ℕ
  pub areas : List ℕ
  pub is : bytes ≡ header_of_two shape.header ++ switch ∷ areas
  pub place : ℕ
  pub live :
      ((switch ≢ 1) × (at ≡ 9 + place)
      × IsAreaDamaged shape.sites (take (area_size shape) areas) place claimed)
      ⊎ ((switch ≡ 1) × (at ≡ 9 + area_size shape + place)
      × IsAreaDamaged shape.sites (take (area_size shape) (drop (area_size shape) areas)) place claimed)

abbrev pub IsDamaged : Shape → List ℕ → ℕ → ℕ → Type 0
IsDamaged shape bytes at claimed = journal.IsDamaged shape.header bytes at claimed ⊎ IsTwoDamaged shape bytes at claimed

-- a write of so many bytes at this place is behind what the live area has, or in the other area
abbrev pub IsAside : Shape → ℕ → ℕ → ℕ → Type 0
IsAside shape switch at count =
    ((switch ≢ 1) × (at ≡ 9 + area_size shape)) ⊎ ((switch ≡ 1) × (at ≡ 9) × (count ≤ area_size shape))

-- both areas have these bodies, so the switch byte chooses between the same
pub record HasBoth (shape : Shape) (bytes : List ℕ) (bodies : List (List ℕ)) : Type 0 where
  pub least : 47 ≤ shape.capacity
  pub switch : ℕ
  pub areas : List ℕ
  pub is : bytes ≡ header_of_two shape.header ++ switch ∷ areas
  pub first : HasArea shape areas bodies
  pub second : HasArea shape (drop (area_size shape) areas) bodies
