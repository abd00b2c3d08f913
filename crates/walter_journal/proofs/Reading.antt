-- What is read as a record was spelled so.
use Rattle.std.proofs.Common.{◌≡◌, ℕ, ◌<◌, List, ◌++◌, length, take, drop, get_or, sym, ap, ◌∙◌, inl, inr, arith}
use Rattle.std.proofs.lemmas.Bool.{cases_lt}
use Rattle.std.proofs.lemmas.List.{take-append-drop, length-take, get_or-take, get_or_past}
use Rattle.std.proofs.lemmas.Nat.{be_bytes_4}
use Rattle.std.specs.List.{IsSplitAt}
use Rattle.byteorder.specs.Endian.{big_bytes, big_number}
use Rattle.walter_journal.specs.Layout.{record_of}

IsBytes-take : (n : ℕ) (bytes : List ℕ) → ((i : ℕ) → get_or bytes i 0 < 256) → (i : ℕ) → get_or (take n bytes) i 0 < 256
IsBytes-take n bytes fits i =
    elim (cases_lt i n) [
      | inl lt ↦ rw (get_or-take n bytes i 0 lt) (fits i)
      | inr le ↦ rw (get_or_past (take n bytes) i 0 (omega (arith, length-take n bytes))) (omega arith)
    ]

-- four bytes of length and so many bytes are a record
pub is_record : (behind front rest body next : List ℕ) (n : ℕ) → ((i : ℕ) → get_or behind i 0 < 256) → IsSplitAt behind 4 front rest → n ≡ big_number 4 front → n < length rest → body ≡ take n rest → next ≡ drop n rest
    → behind ≡ record_of body ++ next
is_record behind front rest body next n fits cut number within body_is next_is =
    let front_fits : (i : ℕ) → get_or front i 0 < 256 = rw cut.1 (IsBytes-take 4 behind fits) in
    let size : length body ≡ n = ap length body_is ∙ omega (arith, length-take n rest) in
    let spelled : big_bytes 4 (length body) ≡ front = be_bytes_4 front (length body) cut.3 front_fits (size ∙ number ∙ omega arith) in
    let whole : behind ≡ front ++ rest = rw (cut.1, cut.2) (sym (take-append-drop 4 behind)) in
    let parts : rest ≡ body ++ next = rw (body_is, next_is) (sym (take-append-drop n rest)) in
    whole ∙ ap (λ t. front ++ t) parts ∙ ap (λ f. f ++ (body ++ next)) (sym spelled)
