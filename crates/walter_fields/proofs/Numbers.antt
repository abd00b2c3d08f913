-- The bytes that are read are the spelling of the number that they give, and the other way round.
use Rattle.std.proofs.Common.{◌≡◌, ℕ, zero, suc, ◌+◌, ◌*◌, ◌/◌, ◌%◌, ◌^◌, ◌<◌, List, [], ◌∷◌, ◌++◌, length, drop, refl, sym, ap, ◌∙◌, arith}
use Rattle.std.proofs.Math.Nat.{mod-lt}
use Rattle.std.proofs.lemmas.Nat.{mod-mul-add, div-mul-add}
use Rattle.std.proofs.lemmas.List.{append-nil, drop_at}
use Rattle.std.specs.Int.{byte_at, bytes_high_first}
use Rattle.byteorder.specs.Endian.{big_from}
use Rattle.byteorder.specs.Numbers.{big_from-cons, big_from-lt, big_number-reads_back, big_from-append, length-bytes_high_first}
use Rattle.walter_fields.specs.Spellings.{IsBytes, number_spelled, number_read}

-- with the same quotient and remainder
same_parts : (w a r b s : ℕ) → r < w → s < w → a * w + r ≡ b * w + s → (a ≡ b) × (r ≡ s)
same_parts w a r b s low_r low_s e =
    (sym (div-mul-add a w r low_r) ∙ ap (λ (n : ℕ). n / w) e ∙ div-mul-add b w s low_s, sym (mod-mul-add a w r low_r) ∙ ap (λ (n : ℕ). n % w) e ∙ mod-mul-add b w s low_s)

-- as many bytes that give the same number are the same
same_bytes : (k : ℕ) (xs ys : List ℕ) → length xs ≡ k → length ys ≡ k → IsBytes xs → IsBytes ys → big_from 0 k xs ≡ big_from 0 k ys → xs ≡ ys
same_bytes zero [] [] long_x long_y fits_x fits_y e = refl
same_bytes zero [] (y ∷ ys) long_x long_y fits_x fits_y e = absurd (omega (arith, long_y))
same_bytes zero (x ∷ xs) ys long_x long_y fits_x fits_y e = absurd (omega (arith, long_x))
same_bytes (suc k) [] ys long_x long_y fits_x fits_y e = absurd (omega (arith, long_x))
same_bytes (suc k) (x ∷ xs) [] long_x long_y fits_x fits_y e = absurd (omega (arith, long_y))
same_bytes (suc k) (x ∷ xs) (y ∷ ys) long_x long_y fits_x fits_y e =
    let moved : x * 256 ^ k + big_from 0 k xs ≡ y * 256 ^ k + big_from 0 k ys =
    ap (λ (n : ℕ). x * 256 ^ k + n) (sym (big_from-cons 0 k x xs)) ∙ e ∙ ap (λ (n : ℕ). y * 256 ^ k + n) (big_from-cons 0 k y ys) in
    let parts = same_parts (256 ^ k) x (big_from 0 k xs) y (big_from 0 k ys) (big_from-lt 0 k xs (λ i. fits_x (suc i))) (big_from-lt 0 k ys (λ i. fits_y (suc i))) moved in
    let others = same_bytes k xs ys (omega (arith, long_x)) (omega (arith, long_y)) (λ i. fits_x (suc i)) (λ i. fits_y (suc i)) parts.1 in
    (λ i. parts.0 i ∷ others i)

byte_at-lt : (i n : ℕ) → byte_at i n < 256
byte_at-lt zero n = mod-lt n (omega arith)
byte_at-lt (suc i) n = mod-lt (n / 256 ^ suc i) (omega arith)

are_bytes : (k n : ℕ) → IsBytes (bytes_high_first k n)
are_bytes zero n i = omega arith
are_bytes (suc k) n zero = byte_at-lt k n
are_bytes (suc k) n (suc i) = are_bytes k n i

pub length-number_spelled : (k n : ℕ) → length (number_spelled k n) ≡ k
unfolding number_spelled
length-number_spelled k n = length-bytes_high_first k n

-- a byte is its own spelling
pub number_spelled-byte : (n : ℕ) → n < 256 → number_spelled 1 n ≡ n ∷ []
unfolding number_spelled
number_spelled-byte n low = ap (λ (m : ℕ). m ∷ []) (omega (arith, low))

pub number_spelled-are_bytes : (k n : ℕ) → IsBytes (number_spelled k n)
unfolding number_spelled
number_spelled-are_bytes k n = are_bytes k n

-- a number that fits is read from its spelling, whatever follows
pub number_read-spelled : (k n : ℕ) (rest : List ℕ) → n < 256 ^ k → number_read k (number_spelled k n ++ rest) ≡ n
unfolding number_spelled number_read
number_read-spelled k n rest fits = big_number-reads_back k n rest fits

-- k bytes are the spelling of the number that they give
pub number_spelled-read : (k : ℕ) (bytes : List ℕ) → length bytes ≡ k → IsBytes bytes → number_spelled k (number_read k bytes) ≡ bytes
unfolding number_spelled number_read
number_spelled-read k bytes long fits =
    let n = big_from 0 k bytes in
    let again : big_from 0 k (bytes_high_first k n) ≡ n = ap (big_from 0 k) (sym (append-nil (bytes_high_first k n))) ∙ big_number-reads_back k n [] (big_from-lt 0 k bytes fits) in
    same_bytes k (bytes_high_first k n) bytes (length-bytes_high_first k n) long (are_bytes k n) fits again

pub number_read-lt : (k : ℕ) (bytes : List ℕ) → IsBytes bytes → number_read k bytes < 256 ^ k
unfolding number_read
number_read-lt k bytes fits = big_from-lt 0 k bytes fits

-- only the first k bytes are read
pub number_read-append : (k : ℕ) (front back : List ℕ) → length front ≡ k → number_read k (front ++ back) ≡ number_read k front
unfolding number_read
number_read-append k front back long = big_from-append k front back (omega (arith, long))

-- no spelling of a number of k bytes begins that of another
pub same_number : (k m n : ℕ) (x y : List ℕ) → m < 256 ^ k → n < 256 ^ k → number_spelled k m ++ x ≡ number_spelled k n ++ y → (m ≡ n) × (x ≡ y)
same_number k m n x y fits_m fits_n e =
    let numbers : m ≡ n = sym (number_read-spelled k m x fits_m) ∙ ap (number_read k) e ∙ number_read-spelled k n y fits_n in
    let rests : x ≡ y = sym (drop_at (number_spelled k m) x k (length-number_spelled k m)) ∙ ap (drop k) e ∙ drop_at (number_spelled k n) y k (length-number_spelled k n) in
    (numbers, rests)
