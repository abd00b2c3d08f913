-- What is cut from the front of the bytes that are left, as a number and as a block.
use Rattle.std.proofs.Common.{◌≡◌, ◌≢◌, ℕ, ℤ, ◌+◌, ◌^◌, ◌<◌, List, ◌++◌, length, take, drop, refl, sym, ap, subst, ◌∙◌, inl, inr, append_assoc, arith}
use Rattle.std.proofs.lemmas.Bool.{cases_lt}
use Rattle.std.proofs.lemmas.List.{length-append, length-take, take-append-drop, get_or-take, get_or-drop, get_or_past, take_at, drop_at}
use Rattle.std.specs.List.{IsSplitAt}
use Rattle.std.specs.Prelude.{FitsSigned}
use Rattle.std.specs.Int.{w64, cast_signed, cast_unsigned}
use Rattle.std.proofs.lemmas.Int.{ints, to_z-of_z}
use Rattle.walter_fields.specs.Cursors.{Remainder, Takes, LacksBlock, whole_of}
use Rattle.walter_fields.specs.Spellings.{IsBytes, number_spelled, number_read, signed_spelled, block_spelled}
use Rattle.walter_fields.proofs.Numbers.{length-number_spelled, number_spelled-read, number_read-spelled, number_read-append, same_number}

pub IsBytes-take : (n : ℕ) (bytes : List ℕ) → IsBytes bytes → IsBytes (take n bytes)
IsBytes-take n bytes fits i = elim (cases_lt i n) [
  | inl lt ↦ rw (get_or-take n bytes i 0 lt) (fits i)
  | inr le ↦ rw (get_or_past (take n bytes) i 0 (omega (arith, length-take n bytes))) (omega arith)
]

pub IsBytes-drop : (n : ℕ) (bytes : List ℕ) → IsBytes bytes → IsBytes (drop n bytes)
IsBytes-drop n bytes fits i = rw get_or-drop (fits (n + i))

pub IsBytes-behind : (front left : List ℕ) → IsBytes (front ++ left) → IsBytes left
IsBytes-behind front left bytes = subst IsBytes (drop_at front left (length front) refl) (IsBytes-drop (length front) (front ++ left) bytes)

-- the front that is cut off is the spelling of its number
pub number_in_front : (k end : ℕ) (left front rest : List ℕ) → IsBytes left → IsSplitAt left k front rest
    → Takes (record { left = left; end = end }) (record { left = rest; end = end }) (number_spelled k (number_read k front))
number_in_front k end left front rest fits cut =
    let spelled : number_spelled k (number_read k front) ≡ front = number_spelled-read k front cut.3 (rw cut.1 (IsBytes-take k left fits)) in
    record { front = rw (spelled, cut.1, cut.2) (sym (take-append-drop k left)); same = refl }

-- the length in front of a block is that of all the bytes
length_in_front : (left front rest : List ℕ) → IsSplitAt left 4 front rest → number_read 4 left ≡ number_read 4 front
length_in_front left front rest cut =
    let whole : left ≡ front ++ rest = rw (cut.1, cut.2) (sym (take-append-drop 4 left)) in
    ap (number_read 4) whole ∙ number_read-append 4 front rest cut.3

-- four bytes of length and so many bytes are a block
pub block_in_front : (end n : ℕ) (left front rest bytes after : List ℕ) → IsBytes left → n ≡ number_read 4 front → IsSplitAt left 4 front rest → IsSplitAt rest n bytes after
    → Takes (record { left = left; end = end }) (record { left = after; end = end }) (block_spelled bytes)
block_in_front end n left front rest bytes after fits number cut cut_rest =
    let length_takes = number_in_front 4 end left front rest fits cut in
    let whole : rest ≡ bytes ++ after = rw (cut_rest.1, cut_rest.2) (sym (take-append-drop n rest)) in
    record {
      front = length_takes.front ∙ ap (λ t. number_spelled 4 (number_read 4 front) ++ t) whole ∙ ap (λ m. number_spelled 4 m ++ (bytes ++ after)) (sym (cut_rest.3 ∙ number))
          ∙ sym (append_assoc (number_spelled 4 (length bytes)) bytes after);
      same = refl;
    }

pub LacksBlock-from_less : (n : ℕ) (left front rest : List ℕ) → n ≡ number_read 4 front → IsSplitAt left 4 front rest → length rest < n → LacksBlock left
LacksBlock-from_less n left front rest number cut less = let e = length_in_front left front rest cut in omega (arith, cut.4)

pub has_block : (n : ℕ) (left front rest bytes after : List ℕ) → n ≡ number_read 4 front → IsSplitAt left 4 front rest → IsSplitAt rest n bytes after → LacksBlock left → ⊥
has_block n left front rest bytes after number cut cut_rest lacks = let e = length_in_front left front rest cut in omega (arith, cut.4, cut_rest.0)

-- where a block begins the bytes, it isn't wanting
pub LacksBlock-no_block : (left bytes rest : List ℕ) → LacksBlock left → length bytes < 2 ^ 32 → left ≢ block_spelled bytes ++ rest
LacksBlock-no_block left bytes rest lacks short e =
    let grouped : left ≡ number_spelled 4 (length bytes) ++ (bytes ++ rest) = e ∙ append_assoc (number_spelled 4 (length bytes)) bytes rest in
    let number : number_read 4 left ≡ length bytes = ap (number_read 4) grouped ∙ number_read-spelled 4 (length bytes) (bytes ++ rest) (omega arith) in
    omega (arith, ap length grouped, length-append (number_spelled 4 (length bytes)) (bytes ++ rest), length-append bytes rest, length-number_spelled 4 (length bytes))

-- no block begins another
pub same_block : (a b x y : List ℕ) → length a < 2 ^ 32 → length b < 2 ^ 32 → block_spelled a ++ x ≡ block_spelled b ++ y → (a ≡ b) × (x ≡ y)
same_block a b x y short_a short_b e =
    let spelled = sym (append_assoc (number_spelled 4 (length a)) a x) ∙ e ∙ append_assoc (number_spelled 4 (length b)) b y in
    let numbers = same_number 4 (length a) (length b) (a ++ x) (b ++ y) (omega arith) (omega arith) spelled in
    (sym (take_at a x (length b) numbers.0) ∙ ap (take (length b)) numbers.1 ∙ take_at b y (length b) refl, sym (drop_at a x (length b) numbers.0) ∙ ap (drop (length b)) numbers.1 ∙ drop_at b y (length b) refl)

-- no spelling of a signed number begins that of another
pub same_signed : (a b : ℤ) (x y : List ℕ) → FitsSigned w64 a → FitsSigned w64 b → signed_spelled a ++ x ≡ signed_spelled b ++ y → (a ≡ b) × (x ≡ y)
same_signed a b x y fits_a fits_b e =
    let numbers = same_number 8 (cast_unsigned w64 a) (cast_unsigned w64 b) x y (omega (arith, ints)) (omega (arith, ints)) e in
    (sym (to_z-of_z w64 a fits_a) ∙ ap (cast_signed w64) numbers.0 ∙ to_z-of_z w64 b fits_b, numbers.1)

-- one spelling is read, and then another
pub Takes-then : (a b c : Remainder) (x y : List ℕ) → Takes a b x → Takes b c y → Takes a c (x ++ y)
Takes-then a b c x y first second = record { front = first.front ∙ ap (λ t. x ++ t) second.front ∙ sym (append_assoc x y c.left); same = second.same ∙ first.same }

-- at the start all is left
pub left_of_whole : (cursor : Remainder) (body : List ℕ) → cursor ≡ whole_of body → cursor.left ≡ body
left_of_whole cursor body whole = ap (λ (c : Remainder). c.left) whole
