-- The digits of bytes.
use Rattle.std.proofs.Common.{◌≡◌, ◌<◌, ℕ, List, [], ◌∷◌, ◌++◌, ◌/◌, ◌%◌, length, flat_map, slice_index, refl, sym, ap, arith}
use Rattle.std.proofs.lemmas.List.{length-append}
use Rattle.hex.specs.Hex.{encode_with, encode_lower, lower_digits}
use Rattle.hex.proofs.HexLemmas.{length-encode_with}
use Rattle.walter_page.specs.Words.{or_dash}

encode_with-append : (t xs ys : List ℕ) → encode_with t (xs ++ ys) ≡ encode_with t xs ++ encode_with t ys
unfolding encode_with
encode_with-append t [] ys = refl
encode_with-append t (x ∷ xs) ys =
    ap (λ ds. slice_index t (x / 16) ∷ slice_index t (x % 16) ∷ ds) (encode_with-append t xs ys)

-- of bytes behind others
pub encode_lower-append : (xs ys : List ℕ) → encode_lower (xs ++ ys) ≡ encode_lower xs ++ encode_lower ys
encode_lower-append xs ys = encode_with-append lower_digits xs ys

encode_with-none : (t : List ℕ) → encode_with t [] ≡ []
unfolding encode_with
encode_with-none t = refl

pub encode_lower-none : encode_lower [] ≡ []
encode_lower-none = encode_with-none lower_digits

-- a dash stands for no bytes
pub dash_of : {X : Type 0} (f : X → List ℕ) (xs : List X) → length xs ≡ 0
    → 45 ∷ [] ≡ or_dash (encode_lower (flat_map f xs))
dash_of f [] none = ap or_dash (sym encode_lower-none)
dash_of f (x ∷ xs) none = absurd (omega (arith, none))

or_dash_some : (text : List ℕ) → 0 < length text → or_dash text ≡ text
or_dash_some [] some = absurd (omega arith)
or_dash_some (byte ∷ bytes) some = refl

-- and for none where there are some
pub digits_of : {X : Type 0} (f : X → List ℕ) (xs : List X) → ((x : X) → 0 < length (f x)) → 0 < length xs
    → or_dash (encode_lower (flat_map f xs)) ≡ encode_lower (flat_map f xs)
digits_of f [] long some = absurd (omega arith)
digits_of f (x ∷ xs) long some =
    or_dash_some (encode_lower (f x ++ flat_map f xs))
    (omega (
      arith,
      length-encode_with lower_digits (f x ++ flat_map f xs),
      length-append (f x) (flat_map f xs),
      long x,
    ))
