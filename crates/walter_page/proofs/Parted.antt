-- The parts of a line, one behind the other.
use Rattle.std.proofs.Common.{◌≡◌, ◌<◌, ◌+◌, ℕ, List, [], ◌∷◌, ◌++◌, length, drop, get_or, flat_map, refl, sym, ap, ◌∙◌, append_assoc, append-nil}
use Rattle.std.proofs.lemmas.List.{drop_more}
use Rattle.walter_page.specs.declared.parts.Part.{Part}
use Rattle.walter_page.specs.Parts.{part_text, parts_behind, parts_text}

parts_flat : (text : List ℕ) (parts : List Part) → parts_behind text parts ≡ text ++ flat_map part_text parts
parts_flat text [] = sym (append-nil text)
parts_flat text (part ∷ parts) =
    parts_flat (text ++ part_text part) parts ∙ append_assoc text (part_text part) (flat_map part_text parts)

pub parts_text-flat : (parts : List Part) → parts_text parts ≡ flat_map part_text parts
parts_text-flat [] = refl
parts_text-flat (part ∷ parts) = parts_flat (part_text part) parts

-- what comes from one element on
pub flat_map-drop_next : {X Y : Type 0} (f : X → List Y) (xs : List X) (i : ℕ) (d : X) → i < length xs
    → flat_map f (drop i xs) ≡ f (get_or xs i d) ++ flat_map f (drop (i + 1) xs)
flat_map-drop_next f xs i d within = ap (flat_map f) (drop_more xs i d within)

pub flat_map-drop_more : {X Y : Type 0} (f : X → List Y) (xs : List X) (i : ℕ) (x d : X) → i < length xs
    → x ≡ get_or xs i d
    → flat_map f (drop i xs) ≡ f x ++ flat_map f (drop (i + 1) xs)
flat_map-drop_more f xs i x d within is =
    flat_map-drop_next f xs i d within ∙ ap (λ y. f y ++ flat_map f (drop (i + 1) xs)) (sym is)
