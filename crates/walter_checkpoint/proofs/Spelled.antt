-- What is read as a pack was spelled so, and where none is read there is none.
use Rattle.std.proofs.Common.{◌≡◌, inl, inr, ◌+◌, ◌<◌, ◌^◌, ℕ, List, [], ◌++◌, length, take, drop, get_or, sym, ap, ◌∙◌, arith, append_assoc, length-append, take-append-drop}
use Rattle.std.proofs.lemmas.Bool.{cases_lt}
use Rattle.std.proofs.lemmas.List.{take_at, drop_at, take-take, length-take, get_or-take, get_or_past}
use Rattle.std.proofs.lemmas.Nat.{be_bytes_8}
use Rattle.std.proofs.Math.Seq.{take-append-add}
use Rattle.std.specs.List.{IsSplitAt}
use Rattle.byteorder.specs.Endian.{big_bytes, big_number}
use Rattle.byteorder.specs.Numbers.{big_number-reads_back}
use Rattle.walter_checkpoint.specs.Areas.{HasNoPack}
use Rattle.walter_checkpoint.specs.Faults.{HasNoEntries}
use Rattle.walter_checkpoint.specs.Packs.{entries, HasEntries, HasPack}

IsBytes-take : (n : ℕ) (bytes : List ℕ) → ((i : ℕ) → get_or bytes i 0 < 256) → (i : ℕ) → get_or (take n bytes) i 0 < 256
IsBytes-take n bytes fits i =
    elim (cases_lt i n) [
      | inl lt ↦ rw (get_or-take n bytes i 0 lt) (fits i)
      | inr le ↦ rw (get_or_past (take n bytes) i 0 (omega (arith, length-take n bytes))) (omega arith)
    ]

-- the first bytes of two lists, of which the first is whole
pub take_both : (m n : ℕ) (xs ys : List ℕ) → length xs ≡ m → take (m + n) (xs ++ ys) ≡ xs ++ take n ys
take_both m n xs ys size = ap (λ k. take (k + n) (xs ++ ys)) (sym size) ∙ take-append-add xs ys n

module _ (sites n : ℕ) (area front rest : List ℕ) (cut : IsSplitAt area 8 front rest) (number : n ≡ big_number 8 front) (within : n < length rest) where
  whole : area ≡ front ++ rest
  whole = rw (cut.1, cut.2) (sym (take-append-drop 8 area))

  -- entries that so many bytes hold are a pack with these in front
  pub pack_read : (bodies : List (List ℕ)) → ((i : ℕ) → get_or area i 0 < 256) → n < 2 ^ 64 → HasEntries sites (take (n + 1) rest) bodies → HasPack sites area bodies (8 + n)
  pack_read bodies fits small has =
      let spelled = entries sites bodies in
      let size : length spelled ≡ n = omega (arith, ap length has.is, length-append spelled has.last, has.one, length-take (n + 1) rest, within) in
      let are : take n rest ≡ spelled = sym (take-take n (n + 1) rest (omega arith)) ∙ ap (take n) has.is ∙ take_at spelled has.last n size in
      let front_fits : (i : ℕ) → get_or front i 0 < 256 = rw cut.1 (IsBytes-take 8 area fits) in
      let head : big_bytes 8 (length spelled) ≡ front = be_bytes_8 front (length spelled) cut.3 front_fits (size ∙ number ∙ omega arith) in
      record {
        is = ap (take (8 + n)) whole ∙ take_both 8 n front rest cut.3 ∙ ap (λ l. front ++ l) are ∙ ap (λ l. l ++ spelled) (sym head);
        more = omega (arith, ap length whole, length-append front rest, cut.3, within);
        short = has.short;
      }

  -- where they are the entries of no bodies there is no pack
  pub no_pack : length area < 2 ^ 64 → HasNoEntries sites (take (n + 1) rest) → HasNoPack sites area
  no_pack small none packed behind short more e =
      let spelled = entries sites packed in
      let split : front ++ rest ≡ big_bytes 8 (length spelled) ++ (spelled ++ behind) = sym whole ∙ e ∙ append_assoc (big_bytes 8 (length spelled)) spelled behind in
      let heads : front ≡ big_bytes 8 (length spelled) = sym (take_at front rest 8 cut.3) ∙ ap (take 8) split in
      let tails : rest ≡ spelled ++ behind = sym (drop_at front rest 8 cut.3) ∙ ap (drop 8) split in
      let less : length spelled < 2 ^ 64 = omega (arith, ap length tails, length-append spelled behind, ap length whole, length-append front rest, small) in
      let size : n ≡ length spelled = number ∙ ap (big_number 8) heads ∙ big_number-reads_back 8 (length spelled) [] less in
      none packed record {
        last = take 1 behind;
        one = omega (arith, length-take 1 behind, more);
        is = ap (take (n + 1)) tails ∙ take_both n 1 spelled behind (sym size);
        short = short;
      }
