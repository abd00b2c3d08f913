-- How numbers and blocks are spelled (docs/FORMATS.md, "Fields"): numbers are big-endian, and a block is its length and its bytes.
use Rattle.std.specs.Prelude.{ℕ, ℤ, ◌<◌, List, ◌++◌, length, slice_index}
use Rattle.std.specs.Int.{w64, cast_unsigned}
use Rattle.byteorder.specs.Endian.{big_bytes, big_number}

-- each number of the list is a byte
abbrev pub IsBytes : List ℕ → Type 0
IsBytes bytes = (i : ℕ) → slice_index bytes i < 256

-- a number of k bytes, the highest first
unfoldable pub number_spelled : ℕ → ℕ → List ℕ
number_spelled k n = big_bytes k n

-- the number that the first k bytes spell
unfoldable pub number_read : ℕ → List ℕ → ℕ
number_read k bytes = big_number k bytes

-- a signed number of eight bytes, as two's complement
abbrev pub signed_spelled : ℤ → List ℕ
signed_spelled z = number_spelled 8 (cast_unsigned w64 z)

-- four bytes of length, and so many bytes
abbrev pub block_spelled : List ℕ → List ℕ
block_spelled bytes = number_spelled 4 (length bytes) ++ bytes
