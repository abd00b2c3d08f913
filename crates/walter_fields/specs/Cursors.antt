-- What a cursor holds, and what it reads (docs/FORMATS.md, "Fields").
use Rattle.std.specs.Prelude.{◌≡◌, ℕ, ◌+◌, ◌<◌, List, ◌++◌, length}
use Rattle.walter_fields.specs.Spellings.{number_read}
use Rattle.walter_fields.specs.declared.short.Short.{Short}

-- the bytes that are left, and how many there are in all
pub record Remainder : Type 0 where
  pub left : List ℕ
  pub end : ℕ

-- bytes of which none was read
abbrev pub whole_of : List ℕ → Remainder
whole_of bytes = record { left = bytes; end = length bytes }

-- the spelling began the bytes that were left, and was read
pub record Takes (old new : Remainder) (spelling : List ℕ) : Type 0 where
  pub front : old.left ≡ spelling ++ new.left
  pub same : new.end ≡ old.end

-- nothing was read, and the byte behind the last is wanting
pub record IsWanting (old new : Remainder) (short : Short) : Type 0 where
  pub wanting : short.at ≡ old.end
  pub unread : new ≡ old

-- fewer bytes than four of length, and so many bytes
abbrev pub LacksBlock : List ℕ → Type 0
LacksBlock left = length left < 4 + number_read 4 left
