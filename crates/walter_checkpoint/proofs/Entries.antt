-- What is read as an entry was spelled so, and where none is read there is none.
use Rattle.std.proofs.Common.{◌≡◌, ⊎_elim, ◌+◌, ◌-◌, ◌<◌, ◌≤◌, ℕ, zero, suc, Bool, true, false, List, [], ◌∷◌, ◌++◌, length, take, drop, get_or, replicate, if◌then◌else◌, All, refl, sym, ap, subst, ◌∙◌, arith, append_assoc, length-append, take-append-drop}
use Rattle.std.proofs.lemmas.Bool.{true≢false, lt-ltb, le-ltb}
use Rattle.std.proofs.lemmas.Bool.Decides.{eqb_tells}
use Rattle.std.proofs.lemmas.Grind.{flat_map-append}
use Rattle.std.proofs.lemmas.List.{take_at, drop_at, drop_more, take_all, length-take, length-drop, length-replicate, take-replicate, get_or-take, get_or_append_left, append-nil}
use Rattle.std.proofs.lemmas.List.Elements.{recursion_from_All}
use Rattle.std.specs.List.{AllByRecursion}
use Rattle.std.specs.Option.{IfNone}
use Rattle.std.specs.Prelude.{◌==◌, nat_lt, Option, Some, None, Result, Ok, Err, IfOk}
use Rattle.walter_journal.specs.Layout.{record_of, IsShort, ClaimsTooMuch}
use Rattle.walter_journal.proofs.Layouts.{same_record, damage_ends}
use Rattle.walter_checkpoint.specs.Faults.{IsNoCut, HasNoBody, HasNoEntry, HasNoEntries}
use Rattle.walter_checkpoint.specs.Packs.{are_zeros, start_end, spare_of, kept_in, cut, is_cut, entry_of, entries, HasGap}
use Rattle.walter_checkpoint.proofs.Contents.{short_cut, same_entry}

zeros_are : (n : ℕ) → are_zeros (replicate n 0) ≡ true
zeros_are zero = refl
zeros_are (suc n) = zeros_are n

-- the test of zeros that are left out, from its parts
tests : (a b c d : Bool) → a ≡ true → b ≡ false → c ≡ false → d ≡ true → (if a then if b then false else if c then false else d else false) ≡ true
tests true false false true ea eb ec ed = refl
tests true false false false ea eb ec ed = absurd (true≢false (sym ed))
tests true false true d ea eb ec ed = absurd (true≢false ec)
tests true true c d ea eb ec ed = absurd (true≢false eb)
tests false b c d ea eb ec ed = absurd (true≢false (sym ea))

not_zero : (n : ℕ) → 0 < n → (n == 0) ≡ false
not_zero n more = ⊎_elim (λ is. absurd (omega (arith, is.1, more))) (λ other. other.0) (eqb_tells n 0)

-- a body with its zeros put back
module _ (sites kept spare : ℕ) (spelled zeros : List ℕ) (gap : HasGap sites spelled kept spare) (size : length zeros ≡ spare) (all : are_zeros zeros ≡ true) where
  abbrev body : List ℕ
  body = take kept spelled ++ zeros ++ drop kept spelled

  size_kept : length (take kept spelled) ≡ kept
  size_kept = omega (arith, length-take kept spelled, gap.there)

  head : get_or body 0 0 ≡ get_or spelled 0 0
  head =
      ap (λ l. get_or l 0 0) (append_assoc (take kept spelled) zeros (drop kept spelled))
      ∙ get_or_append_left (take kept spelled) (zeros ++ drop kept spelled) 0 0 (omega (arith, size_kept, gap.some))
      ∙ get_or-take kept spelled 0 0 gap.some

  end_is : start_end (get_or body 0 0) ≡ kept + spare
  end_is = ap start_end head ∙ gap.start

  kept_is : kept_in sites body ≡ kept
  kept_is = omega (arith, end_is, gap.is_spare)

  body_size : length body ≡ length spelled + spare
  body_size = omega (arith, length-append (take kept spelled ++ zeros) (drop kept spelled), length-append (take kept spelled) zeros, size_kept, size, length-drop kept spelled, gap.there)

  window : take (spare_of sites) (drop (kept_in sites body) body) ≡ zeros
  window =
      ap (λ n. take (spare_of sites) (drop n body)) kept_is
      ∙ ap (λ l. take (spare_of sites) (drop kept l)) (append_assoc (take kept spelled) zeros (drop kept spelled))
      ∙ ap (take (spare_of sites)) (drop_at (take kept spelled) (zeros ++ drop kept spelled) kept size_kept)
      ∙ take_at zeros (drop kept spelled) (spare_of sites) (size ∙ gap.is_spare)

  pub restored_cut : is_cut sites body ≡ true
  restored_cut =
      tests (nat_lt sites 8) (start_end (get_or body 0 0) == 0) (nat_lt (length body) (start_end (get_or body 0 0))) (are_zeros (take (spare_of sites) (drop (kept_in sites body) body)))
      (lt-ltb sites 8 gap.few) (not_zero (start_end (get_or body 0 0)) (omega (arith, end_is, gap.some)))
      (le-ltb (length body) (start_end (get_or body 0 0)) (omega (arith, end_is, body_size, gap.there)))
      (ap are_zeros window ∙ all)

  pub restored_is : cut sites body ≡ spelled
  restored_is =
      ap (λ n. take n body ++ drop (start_end (get_or body 0 0)) body) kept_is
      ∙ ap (λ n. take kept body ++ drop n body) end_is
      ∙ ap (λ l. l ++ drop (kept + spare) body) (ap (take kept) (append_assoc (take kept spelled) zeros (drop kept spelled)) ∙ take_at (take kept spelled) (zeros ++ drop kept spelled) kept size_kept)
      ∙ ap (λ l. take kept spelled ++ l) (drop_at (take kept spelled ++ zeros) (drop kept spelled) (kept + spare) (omega (arith, length-append (take kept spelled) zeros, size_kept, size)))
      ∙ take-append-drop kept spelled

  pub restored_short : IsShort body
  restored_short = omega (arith, body_size, gap.short)

-- a byte, and the others behind it
pub head_and_rest : (bytes : List ℕ) → 1 ≤ length bytes → bytes ≡ get_or bytes 0 0 ∷ take (length bytes - 1) (drop 1 bytes)
head_and_rest bytes some = drop_more bytes 0 0 some ∙ ap (λ l. get_or bytes 0 0 ∷ l) (sym (take_all (length bytes - 1) (drop 1 bytes) (omega (arith, length-drop 1 bytes))))

-- as it is written, step by step
pub restored_so : (sites kept spare : ℕ) (spelled a b c : List ℕ) → HasGap sites spelled kept spare → a ≡ take kept spelled → b ≡ a ++ take spare (replicate 64 0) → c ≡ b ++ take (length spelled - kept) (drop kept spelled)
    → IsShort c × (is_cut sites c ≡ true) × (cut sites c ≡ spelled)
restored_so sites kept spare spelled a b c gap ea eb ec =
    let zeros : List ℕ = replicate spare 0 in
    let few : spare ≤ 64 = omega (arith, gap.is_spare) in
    let is : c ≡ take kept spelled ++ zeros ++ drop kept spelled =
    ec ∙ ap (λ l. b ++ l) (take_all (length spelled - kept) (drop kept spelled) (omega (arith, length-drop kept spelled)))
    ∙ ap (λ l. l ++ drop kept spelled) (eb ∙ ap (λ l. l ++ take spare (replicate 64 0)) ea ∙ ap (λ l. take kept spelled ++ l) (take-replicate spare 64 0 few)) in
    let size : length zeros ≡ spare = length-replicate spare 0 in
    let all : are_zeros zeros ≡ true = zeros_are spare in (
      subst (λ l. IsShort l) (sym is) (restored_short sites kept spare spelled zeros gap size all),
      subst (λ l. is_cut sites l ≡ true) (sym is) (restored_cut sites kept spare spelled zeros gap size all),
      subst (λ l. cut sites l ≡ spelled) (sym is) (restored_is sites kept spare spelled zeros gap size all),
    )

entry_is : (sites : ℕ) (body : List ℕ) (p : Bool) → is_cut sites body ≡ p → entry_of sites body ≡ (if p then 1 ∷ record_of (cut sites body) else 0 ∷ record_of body)
entry_is sites body p is = ap (λ b. if b then 1 ∷ record_of (cut sites body) else 0 ∷ record_of body) is

-- no entry stands where the length behind the mark claims too much
pub no_record : (sites mark claimed : ℕ) (behind : List ℕ) → ClaimsTooMuch behind claimed → HasNoEntry sites (mark ∷ behind)
no_record sites mark claimed behind wrong body next short more e = by (is_cut sites body) e
  where
    by : (p : Bool) → mark ∷ behind ≡ (if p then 1 ∷ record_of (cut sites body) else 0 ∷ record_of body) ++ next → ⊥
    by true e = (damage_ends behind claimed wrong).1 (cut sites body) next (short_cut sites body short) more (ap (λ l. 1 ∷ drop 1 l) e)
    by false e = (damage_ends behind claimed wrong).1 body next short more (ap (λ l. 1 ∷ drop 1 l) e)

-- nor where no body is spelled so behind its mark
pub no_entry : (sites mark : ℕ) (spelled rest : List ℕ) → IsShort spelled → HasNoBody sites mark spelled → HasNoEntry sites (mark ∷ (record_of spelled ++ rest))
no_entry sites mark spelled rest short_spelled none body next short more e = by (is_cut sites body) refl e
  where
    by : (p : Bool) → is_cut sites body ≡ p → mark ∷ (record_of spelled ++ rest) ≡ (if p then 1 ∷ record_of (cut sites body) else 0 ∷ record_of body) ++ next → ⊥
    by true is e =
        let same = same_record spelled (cut sites body) rest next short_spelled (short_cut sites body short) (ap (drop 1) e) in
        none body short (entry_is sites body true is ∙ ap (λ l. 1 ∷ record_of l) (sym same.0) ∙ ap (λ n. n ∷ record_of spelled) (sym (ap (λ l. get_or l 0 0) e)))
    by false is e =
        let same = same_record spelled body rest next short_spelled short (ap (drop 1) e) in
        none body short (entry_is sites body false is ∙ ap (λ l. 0 ∷ record_of l) (sym same.0) ∙ ap (λ n. n ∷ record_of spelled) (sym (ap (λ l. get_or l 0 0) e)))

-- what is spelled behind each mark
pub no_whole : (sites : ℕ) (spelled : List ℕ) → IsShort spelled → is_cut sites spelled ≡ true → HasNoBody sites 0 spelled
no_whole sites spelled short_spelled is_so body short e = by (is_cut sites body) refl e
  where
    by : (p : Bool) → is_cut sites body ≡ p → (if p then 1 ∷ record_of (cut sites body) else 0 ∷ record_of body) ≡ 0 ∷ record_of spelled → ⊥
    by true is e = omega (arith, ap (λ l. get_or l 0 0) e)
    by false is e =
        let same = same_record body spelled [] [] short short_spelled (ap (λ l. drop 1 l ++ []) e) in
        true≢false (sym is_so ∙ ap (is_cut sites) (sym same.0) ∙ is)

pub no_restored : (sites : ℕ) (spelled : List ℕ) → IsShort spelled → IsNoCut sites spelled → HasNoBody sites 1 spelled
no_restored sites spelled short_spelled none body short e = by (is_cut sites body) refl e
  where
    by : (p : Bool) → is_cut sites body ≡ p → (if p then 1 ∷ record_of (cut sites body) else 0 ∷ record_of body) ≡ 1 ∷ record_of spelled → ⊥
    by true is e =
        let same = same_record (cut sites body) spelled [] [] (short_cut sites body short) short_spelled (ap (λ l. drop 1 l ++ []) e) in
        none body short is same.0
    by false is e = omega (arith, ap (λ l. get_or l 0 0) e)

-- what follows where none is found
pub if_none : {X E P Q : Type 0} (result : Result (Option X) E) → (P → Q) → IfOk result (λ found. IfNone found P) → IfOk result (λ found. IfNone found Q)
if_none (Ok None) so is = so is
if_none (Ok (Some x)) so is = tt
if_none (Err e) so is = tt

-- one more entry
pub entries_push : (sites : ℕ) (bodies : List (List ℕ)) (body next bytes rest : List ℕ) → bytes ≡ entries sites bodies ++ rest → rest ≡ entry_of sites body ++ next → bytes ≡ entries sites (bodies ++ body ∷ []) ++ next
entries_push sites bodies body next bytes rest is first =
    is ∙ ap (λ l. entries sites bodies ++ l) first ∙ sym (append_assoc (entries sites bodies) (entry_of sites body) next)
    ∙ ap (λ l. l ++ next) (ap (λ l. entries sites bodies ++ l) (sym (append-nil (entry_of sites body))) ∙ sym (flat_map-append (entry_of sites) bodies (body ∷ [])))

other_entries : (sites : ℕ) (a b : List (List ℕ)) (rest last : List ℕ) → AllByRecursion IsShort a → AllByRecursion IsShort b → HasNoEntry sites rest → 1 < length rest → length last ≡ 1 → entries sites a ++ rest ≡ entries sites b ++ last → ⊥
other_entries sites [] [] rest last short_a short_b none more one e = omega (arith, ap length e, more, one)
other_entries sites [] (y ∷ b) rest last short_a short_b none more one e =
    none y (entries sites b ++ last) short_b.0 (omega (arith, length-append (entries sites b) last, one)) (e ∙ append_assoc (entry_of sites y) (entries sites b) last)
other_entries sites (x ∷ a) [] rest last short_a short_b none more one e =
    omega (arith, ap length e, more, one, length-append (entries sites (x ∷ a)) rest)
other_entries sites (x ∷ a) (y ∷ b) rest last short_a short_b none more one e =
    let whole : entry_of sites x ++ (entries sites a ++ rest) ≡ entry_of sites y ++ (entries sites b ++ last) = sym (append_assoc (entry_of sites x) (entries sites a) rest) ∙ e ∙ append_assoc (entry_of sites y) (entries sites b) last in
    other_entries sites a b rest last short_a.1 short_b.1 none more one (same_entry sites x y (entries sites a ++ rest) (entries sites b ++ last) short_a.0 short_b.0 whole).1

-- where no entry stands behind some, the bytes are the entries of no bodies
pub no_entries : (sites : ℕ) (bodies : List (List ℕ)) (bytes rest : List ℕ) → bytes ≡ entries sites bodies ++ rest → All IsShort bodies → 1 < length rest → HasNoEntry sites rest → HasNoEntries sites bytes
no_entries sites bodies bytes rest is short more none others has =
    other_entries sites bodies others rest has.last (recursion_from_All IsShort bodies short) (recursion_from_All IsShort others has.short) none more has.one (sym is ∙ has.is)
