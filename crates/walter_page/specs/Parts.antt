-- What the parts of a line are spelled as.
use Rattle.std.specs.Prelude.{ℕ, List, [], ◌∷◌, ◌++◌}
use Rattle.std.specs.Fmt.{decimal}
use Rattle.hex.specs.Hex.{encode_lower}
use Rattle.walter_page.specs.declared.parts.Part.{Part}
use Rattle.walter_page.specs.declared.parts.Part.TheVariants.{Word, Number, Hex}

abbrev pub part_text : Part → List ℕ
part_text (Word word) = word.now
part_text (Number number) = decimal number
part_text (Hex bytes) = encode_lower bytes.now

-- parts behind a text, and parts alone
abbrev pub parts_behind : List ℕ → List Part → List ℕ
parts_behind text [] = text
parts_behind text (part ∷ parts) = parts_behind (text ++ part_text part) parts

abbrev pub parts_text : List Part → List ℕ
parts_text [] = []
parts_text (part ∷ parts) = parts_behind (part_text part) parts
