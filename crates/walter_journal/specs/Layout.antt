-- The bytes of a journal, as docs/FORMATS.md ("Journal") says them: a header, and then gates, behind each open one a
-- record. A gate is one byte and is open where it is 1. What stands behind the first closed gate doesn't count.
use Rattle.std.specs.Prelude.{◌≡◌, ◌≢◌, ◌⊎◌, ◌+◌, ◌<◌, ◌≤◌, ℕ, List, [], ◌∷◌, ◌++◌, length, take, All, flat_map, sum_by}
use Rattle.byteorder.specs.Endian.{big_bytes, big_number}
use Rattle.walter_base.specs.declared.format.Format.{Format}
use Rattle.walter_base.specs.declared.format.Format.TheVariants.{First, Second}

-- "1" or "2", which ends a header
abbrev pub digit_of : Format → ℕ
digit_of First = 0x31
digit_of Second = 0x32

-- "WALTERJ1", or "WALTERJ2" where the records are of the second format
abbrev pub header_in : Format → List ℕ
header_in format = 0x57 ∷ 0x41 ∷ 0x4C ∷ 0x54 ∷ 0x45 ∷ 0x52 ∷ 0x4A ∷ digit_of format ∷ []

-- a body behind its length in four bytes, the highest first
abbrev pub record_of : List ℕ → List ℕ
record_of body = big_bytes 4 (length body) ++ body

-- the records of these bodies, each behind an open gate
abbrev pub records : List (List ℕ) → List ℕ
records bodies = flat_map (λ body. 1 ∷ record_of body) bodies

-- a body has at most 65,536 bytes
abbrev pub IsShort : List ℕ → Type 0
IsShort body = length body ≤ 65536

-- bytes that begin with others in front, behind which stand the records of these bodies and a closed gate
pub record HasBehind (front bytes : List ℕ) (bodies : List (List ℕ)) : Type 0 where
  pub gate : ℕ
  pub rest : List ℕ
  pub is : bytes ≡ front ++ records bodies ++ gate ∷ rest
  pub closed : gate ≢ 1
  pub fit : All IsShort bodies

-- the bytes of a journal with these bodies, whose header names this format
abbrev pub HasContent : Format → List ℕ → List (List ℕ) → Type 0
HasContent format bytes bodies = HasBehind (header_in format) bytes bodies

-- how many bytes the gates and records of these bodies have, with the gate that ends them
abbrev pub span_of : List (List ℕ) → ℕ
span_of bodies = 1 + sum_by (λ body. 5 + length body) bodies

-- the place behind the first closed gate
abbrev pub end_behind : List (List ℕ) → ℕ
end_behind bodies = 9 + sum_by (λ body. 5 + length body) bodies

-- they don't begin as a journal does, with the header of a format and a gate
abbrev pub IsForeign : List ℕ → Type 0
IsForeign bytes = (length bytes < 9) ⊎ ((format : Format) → take 8 bytes ≢ header_in format)

-- No record and gate stand behind an open gate: the length that is claimed there is too great, or the next gate isn't
-- within the bytes. Where fewer than four bytes stand there, 0 is told.
abbrev pub ClaimsTooMuch : List ℕ → ℕ → Type 0
ClaimsTooMuch behind claimed =
    ((length behind < 4) × (claimed ≡ 0))
    ⊎ ((4 ≤ length behind) × (claimed ≡ big_number 4 behind) × ((65536 < claimed) ⊎ (length behind ≤ 4 + claimed)))

-- behind these bytes in front the open gate at this place is followed by a length that claims too much
pub record IsDamagedBehind (front bytes : List ℕ) (at claimed : ℕ) : Type 0 where
  pub bodies : List (List ℕ)
  pub behind : List ℕ
  pub is : bytes ≡ front ++ records bodies ++ 1 ∷ behind
  pub fit : All IsShort bodies
  pub place : at ≡ length (front ++ records bodies)
  pub wrong : ClaimsTooMuch behind claimed

-- and behind the header of this format
abbrev pub IsDamaged : Format → List ℕ → ℕ → ℕ → Type 0
IsDamaged format bytes at claimed = IsDamagedBehind (header_in format) bytes at claimed

-- bytes with these bodies behind others in front, or with one more behind them
abbrev pub IsBehindOrOneMore : List ℕ → List (List ℕ) → List ℕ → List ℕ → Type 0
IsBehindOrOneMore front bodies body image = HasBehind front image bodies ⊎ HasBehind front image (bodies ++ body ∷ [])
