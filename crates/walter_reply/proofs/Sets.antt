-- Counts are read in one way, and where they are wrong, at one place.
use Rattle.std.proofs.Common.{◌≡◌, ◌≢◌, ℕ, zero, suc, ◌+◌, ◌*◌, ◌<◌, ◌≤◌, List, [], ◌∷◌, ◌++◌, length, take, drop, refl, sym, ap, subst, ◌∙◌, inl, inr, append_assoc, append-nil, arith}
use Rattle.std.specs.Prelude.{ℤ, pos, flat_map, All, AllPairs}
use Rattle.std.specs.Int.{w64, cast_unsigned}
use Rattle.std.specs.List.{AllByRecursion}
use Rattle.std.proofs.lemmas.Bool.{cases_lt}
use Rattle.std.proofs.lemmas.Int.{ints}
use Rattle.std.proofs.lemmas.List.{length-append, length-drop, length-take-le, take-append-drop, drop_at}
use Rattle.std.proofs.lemmas.List.Concat.{flat_map-cons}
use Rattle.std.proofs.lemmas.List.Elements.{recursion_from_All, All-contains, Contains-append_right}
use Rattle.walter_fields.specs.Spellings.{number_spelled, number_read, signed_spelled}
use Rattle.walter_fields.proofs.Numbers.{length-number_spelled, number_read-spelled, number_read-append, same_number}
use Rattle.walter_fields.proofs.Readings.{same_signed}
use Rattle.walter_names.proofs.Prefixes.{regrouped}
use Rattle.walter_reply.specs.Sets.{entry_spelled, counts_spelled, IsEntry, AreEntries, AreRightCounts, IsAbove, IsBadEntry, IsBadCounts, short_id, falls, short_count, zero_count, short, many, entry}

-- ---- how many bytes

pub length-entry_spelled : (e : ℕ × ℤ) → length (entry_spelled e) ≡ 16
length-entry_spelled e = omega (arith, length-append (number_spelled 8 e.0) (signed_spelled e.1), length-number_spelled 8 e.0, length-number_spelled 8 (cast_unsigned w64 e.1))

pub length-entries : (counts : List (ℕ × ℤ)) → length (flat_map entry_spelled counts) ≡ 16 * length counts
length-entries [] = refl
length-entries (e ∷ es) =
    let others = length-entries es in
    rw flat_map-cons (omega (arith, length-append (entry_spelled e) (flat_map entry_spelled es), length-entry_spelled e))

pub length-counts_spelled : (counts : List (ℕ × ℤ)) → length (counts_spelled counts) ≡ 4 + 16 * length counts
length-counts_spelled counts = omega (arith, length-append (number_spelled 4 (length counts)) (flat_map entry_spelled counts), length-number_spelled 4 (length counts), length-entries counts)

-- ---- no spelling begins another

same_entry : (a b : ℕ × ℤ) (x y : List ℕ) → IsEntry a → IsEntry b → entry_spelled a ++ x ≡ entry_spelled b ++ y → (a ≡ b) × (x ≡ y)
same_entry a b x y fits_a fits_b e =
    let one = same_number 8 a.0 b.0 (signed_spelled a.1 ++ x) (signed_spelled b.1 ++ y) (omega (arith, fits_a.0)) (omega (arith, fits_b.0)) (regrouped (number_spelled 8 a.0) (signed_spelled a.1) x (number_spelled 8 b.0) (signed_spelled b.1) y e) in
    let two = same_signed a.1 b.1 x y fits_a.1 fits_b.1 one.1 in
    ((λ i. (one.0 i, two.0 i)), two.1)

-- an entry in front of others, and what follows them
in_front : (a : ℕ × ℤ) (es : List (ℕ × ℤ)) (x : List ℕ) → flat_map entry_spelled (a ∷ es) ++ x ≡ entry_spelled a ++ (flat_map entry_spelled es ++ x)
in_front a es x = ap (λ t. t ++ x) (flat_map-cons entry_spelled a es) ∙ append_assoc (entry_spelled a) (flat_map entry_spelled es) x

-- of entries the first, and those behind it
first_entries : (a b : ℕ × ℤ) (es bs : List (ℕ × ℤ)) (x y : List ℕ) → IsEntry a → IsEntry b → flat_map entry_spelled (a ∷ es) ++ x ≡ flat_map entry_spelled (b ∷ bs) ++ y
    → (a ≡ b) × (flat_map entry_spelled es ++ x ≡ flat_map entry_spelled bs ++ y)
first_entries a b es bs x y fits_a fits_b e = same_entry a b (flat_map entry_spelled es ++ x) (flat_map entry_spelled bs ++ y) fits_a fits_b (sym (in_front a es x) ∙ e ∙ in_front b bs y)

each_same : (es bs : List (ℕ × ℤ)) (x y : List ℕ) → length es ≡ length bs → AllByRecursion IsEntry es → AllByRecursion IsEntry bs → flat_map entry_spelled es ++ x ≡ flat_map entry_spelled bs ++ y → (es ≡ bs) × (x ≡ y)
each_same [] [] x y long fits_a fits_b e = (refl, e)
each_same [] (b ∷ bs) x y long fits_a fits_b e = absurd (omega (arith, long))
each_same (a ∷ es) [] x y long fits_a fits_b e = absurd (omega (arith, long))
each_same (a ∷ es) (b ∷ bs) x y long fits_a fits_b e =
    let one = first_entries a b es bs x y fits_a.0 fits_b.0 e in
    let others = each_same es bs x y (omega (arith, long)) fits_a.1 fits_b.1 one.1 in
    ((λ i. one.0 i ∷ others.0 i), others.1)

same_entries : (es bs : List (ℕ × ℤ)) (x y : List ℕ) → length es ≡ length bs → All IsEntry es → All IsEntry bs → flat_map entry_spelled es ++ x ≡ flat_map entry_spelled bs ++ y → (es ≡ bs) × (x ≡ y)
same_entries es bs x y long fits_a fits_b e = each_same es bs x y long (recursion_from_All IsEntry es fits_a) (recursion_from_All IsEntry bs fits_b) e

pub same_counts : (a b : List (ℕ × ℤ)) (x y : List ℕ) → AreRightCounts a → AreRightCounts b → counts_spelled a ++ x ≡ counts_spelled b ++ y → (a ≡ b) × (x ≡ y)
same_counts a b x y are_a are_b e =
    let one = same_number 4 (length a) (length b) (flat_map entry_spelled a ++ x) (flat_map entry_spelled b ++ y) (omega (arith, are_a.1)) (omega (arith, are_b.1))
    (regrouped (number_spelled 4 (length a)) (flat_map entry_spelled a) x (number_spelled 4 (length b)) (flat_map entry_spelled b) y e) in
    same_entries a b x y one.0 are_a.0.ranges are_b.0.ranges one.1

-- ---- fewer entries, and the next

-- of more entries one is the next behind fewer, and it begins what follows these
record HasNext (before counts : List (ℕ × ℤ)) (rest y : List ℕ) : Type 0 where
  next : ℕ × ℤ
  after : List (ℕ × ℤ)
  is : counts ≡ before ++ (next ∷ after)
  begins : rest ≡ entry_spelled next ++ (flat_map entry_spelled after ++ y)

each_next : (es bs : List (ℕ × ℤ)) (x y : List ℕ) → length es < length bs → AllByRecursion IsEntry es → AllByRecursion IsEntry bs → flat_map entry_spelled es ++ x ≡ flat_map entry_spelled bs ++ y → HasNext es bs x y
each_next [] [] x y less fits_a fits_b e = absurd (omega (arith, less))
each_next [] (b ∷ bs) x y less fits_a fits_b e = record { next = b; after = bs; is = refl; begins = e ∙ in_front b bs y }
each_next (a ∷ es) [] x y less fits_a fits_b e = absurd (omega (arith, less))
each_next (a ∷ es) (b ∷ bs) x y less fits_a fits_b e =
    let one = first_entries a b es bs x y fits_a.0 fits_b.0 e in
    let others = each_next es bs x y (omega (arith, less)) fits_a.1 fits_b.1 one.1 in
    record { next = others.next; after = others.after; is = (λ i. sym one.0 i ∷ others.is i); begins = others.begins }

has_next : (es bs : List (ℕ × ℤ)) (x y : List ℕ) → length es < length bs → All IsEntry es → All IsEntry bs → flat_map entry_spelled es ++ x ≡ flat_map entry_spelled bs ++ y → HasNext es bs x y
has_next es bs x y less fits_a fits_b e = each_next es bs x y less (recursion_from_All IsEntry es fits_a) (recursion_from_All IsEntry bs fits_b) e

-- what is known of the next of right entries
of_next : (P : ℕ × ℤ → Type 0) (before after : List (ℕ × ℤ)) (next : ℕ × ℤ) → All P (before ++ (next ∷ after)) → P next
of_next P before after next all = All-contains P (before ++ (next ∷ after)) next all (Contains-append_right before (next ∷ after) next (0, omega arith, refl))

pairs_behind : (first : ℕ × ℤ) (others : List (ℕ × ℤ)) → AllPairs (λ a b. a.0 < b.0) (first ∷ others) → AllPairs (λ a b. a.0 < b.0) others
pairs_behind first others pairs i k d below high = pairs (suc i) (suc k) d (omega (arith, below)) (omega (arith, high))

above_first : (first : ℕ × ℤ) (others : List (ℕ × ℤ)) → AllPairs (λ a b. a.0 < b.0) (first ∷ others) → All (λ e. first.0 < e.0) others
above_first first others pairs k d within = pairs 0 (suc k) d (omega arith) (omega (arith, within))

next_above : (before after : List (ℕ × ℤ)) (next : ℕ × ℤ) → AllPairs (λ a b. a.0 < b.0) (before ++ (next ∷ after)) → IsAbove before next.0
next_above [] after next pairs k d within = absurd (omega (arith, within))
next_above (a ∷ es) after next pairs zero d within = of_next (λ b. a.0 < b.0) es after next (above_first a (es ++ (next ∷ after)) pairs)
next_above (a ∷ es) after next pairs (suc k) d within = next_above es after next (pairs_behind a (es ++ (next ∷ after)) pairs) k d (omega (arith, within))

-- ---- a place of what is wrong

-- the number that a front spells doesn't change with what follows
read_front : (k : ℕ) (bytes more : List ℕ) → k ≤ length bytes → number_read k (bytes ++ more) ≡ number_read k bytes
read_front k bytes more long =
    let front = take k bytes in
    let back = drop k bytes in
    let whole : bytes ≡ front ++ back = sym (take-append-drop k bytes) in
    let four : length front ≡ k = length-take-le k bytes long in
    ap (λ t. number_read k (t ++ more)) whole ∙ ap (number_read k) (append_assoc front back more) ∙ number_read-append k front (back ++ more) four
    ∙ sym (number_read-append k front back four) ∙ ap (number_read k) (sym whole)

-- what an entry begins is no bad entry, but for want of bytes
pub cut_entry : (before after : List (ℕ × ℤ)) (next : ℕ × ℤ) (bytes more behind : List ℕ) (place : ℕ) → AreEntries (before ++ (next ∷ after)) → bytes ++ more ≡ entry_spelled next ++ behind → IsBadEntry before bytes place
    → (place ≡ length bytes) × (length bytes < 16)
cut_entry before after next bytes more behind place are e bad = cut bad
  where
    fits : IsEntry next
    fits = of_next IsEntry before after next are.ranges

    grouped : bytes ++ more ≡ number_spelled 8 next.0 ++ (signed_spelled next.1 ++ behind)
    grouped = e ∙ append_assoc (number_spelled 8 next.0) (signed_spelled next.1) behind

    id : 8 ≤ length bytes → number_read 8 bytes ≡ next.0
    id long = sym (read_front 8 bytes more long) ∙ ap (number_read 8) grouped ∙ number_read-spelled 8 next.0 (signed_spelled next.1 ++ behind) (omega (arith, fits.0))

    count : (rest : List ℕ) → 8 ≤ length bytes → drop 8 bytes ≡ signed_spelled (pos 0) ++ rest → next.1 ≡ pos 0
    count rest long zero_is =
        let front = take 8 bytes in
        let four : length front ≡ 8 = length-take-le 8 bytes long in
        let left : bytes ++ more ≡ front ++ (signed_spelled (pos 0) ++ (rest ++ more)) =
        ap (λ t. t ++ more) (sym (take-append-drop 8 bytes)) ∙ append_assoc front (drop 8 bytes) more ∙ ap (λ t. front ++ (t ++ more)) zero_is ∙ ap (λ t. front ++ t) (append_assoc (signed_spelled (pos 0)) rest more) in
        let behind_id = sym (drop_at (number_spelled 8 next.0) (signed_spelled next.1 ++ behind) 8 (length-number_spelled 8 next.0)) ∙ ap (drop 8) (sym grouped ∙ left) ∙ drop_at front (signed_spelled (pos 0) ++ (rest ++ more)) 8 four in
        (same_signed next.1 (pos 0) behind (rest ++ more) fits.1 (omega (arith, ints)) behind_id).0

    cut : IsBadEntry before bytes place → (place ≡ length bytes) × (length bytes < 16)
    cut (short_id few is) = (is, omega (arith, few))
    cut (falls long not is) = absurd (not (subst (IsAbove before) (sym (id long)) (next_above before after next are.rising)))
    cut (short_count long few above is) = (is, few)
    cut (zero_count rest long above zero_is is) = absurd (of_next (λ b. b.1 ≢ pos 0) before after next are.counted (count rest long zero_is))

too_short : (bytes rest : List ℕ) → length bytes < 16 → drop 8 bytes ≡ signed_spelled (pos 0) ++ rest → ⊥
too_short bytes rest few is = omega (arith, few, ap length is, length-drop 8 bytes, length-append (signed_spelled (pos 0)) rest, length-number_spelled 8 (cast_unsigned w64 (pos 0)))

one_bad_entry : (before : List (ℕ × ℤ)) (bytes : List ℕ) (i j : ℕ) → IsBadEntry before bytes i → IsBadEntry before bytes j → i ≡ j
one_bad_entry before bytes i j (short_id few is) (short_id less other) = is ∙ sym other
one_bad_entry before bytes i j (short_id few is) (falls long not other) = absurd (omega (arith, few, long))
one_bad_entry before bytes i j (short_id few is) (short_count long less above other) = absurd (omega (arith, few, long))
one_bad_entry before bytes i j (short_id few is) (zero_count rest long above zero_is other) = absurd (omega (arith, few, long))
one_bad_entry before bytes i j (falls long not is) (short_id less other) = absurd (omega (arith, less, long))
one_bad_entry before bytes i j (falls long not is) (falls far never other) = is ∙ sym other
one_bad_entry before bytes i j (falls long not is) (short_count far less above other) = absurd (not above)
one_bad_entry before bytes i j (falls long not is) (zero_count rest far above zero_is other) = absurd (not above)
one_bad_entry before bytes i j (short_count long few above is) (short_id less other) = absurd (omega (arith, less, long))
one_bad_entry before bytes i j (short_count long few above is) (falls far not other) = absurd (not above)
one_bad_entry before bytes i j (short_count long few above is) (short_count far less high other) = is ∙ sym other
one_bad_entry before bytes i j (short_count long few above is) (zero_count rest far high zero_is other) = absurd (too_short bytes rest few zero_is)
one_bad_entry before bytes i j (zero_count rest long above zero_is is) (short_id less other) = absurd (omega (arith, less, long))
one_bad_entry before bytes i j (zero_count rest long above zero_is is) (falls far not other) = absurd (not above)
one_bad_entry before bytes i j (zero_count rest long above zero_is is) (short_count far less high other) = absurd (too_short bytes rest less zero_is)
one_bad_entry before bytes i j (zero_count rest long above zero_is is) (zero_count others far high zero_too other) = is ∙ sym other

-- counts that go on where others are wrong
not_next : (before counts : List (ℕ × ℤ)) (rest y : List ℕ) (place : ℕ) → AreEntries counts → All IsEntry before → length before < length counts → flat_map entry_spelled before ++ rest ≡ flat_map entry_spelled counts ++ y
    → IsBadEntry before rest place → ⊥
not_next before counts rest y place are ranges less e bad =
    let has = has_next before counts rest y less ranges are.ranges e in
    let behind = flat_map entry_spelled has.after ++ y in
    let cut = cut_entry before has.after has.next rest [] behind place (subst AreEntries {y = before ++ (has.next ∷ has.after)} has.is are) (append-nil rest ∙ has.begins) bad in
    omega (arith, cut.1, ap length has.begins, length-append (entry_spelled has.next) behind, length-entry_spelled has.next)

long_front : (n : ℕ) (bytes rest : List ℕ) → bytes ≡ number_spelled 4 n ++ rest → 4 ≤ length bytes
long_front n bytes rest is = omega (arith, ap length is, length-append (number_spelled 4 n) rest, length-number_spelled 4 n)

few_in_front : (n : ℕ) (bytes rest : List ℕ) → n ≤ 4095 → bytes ≡ number_spelled 4 n ++ rest → number_read 4 bytes ≡ n
few_in_front n bytes rest few is = ap (number_read 4) is ∙ number_read-spelled 4 n rest (omega (arith, few))

pub one_bad_counts : (bytes : List ℕ) (i j : ℕ) → IsBadCounts bytes i → IsBadCounts bytes j → i ≡ j
one_bad_counts bytes i j (short few is) (short less other) = is ∙ sym other
one_bad_counts bytes i j (short few is) (many long above other) = absurd (omega (arith, few, long))
one_bad_counts bytes i j (short few is) (entry n before rest place whole low wanting are bad other) = absurd (omega (arith, few, long_front n bytes (flat_map entry_spelled before ++ rest) whole))
one_bad_counts bytes i j (many long above is) (short less other) = absurd (omega (arith, less, long))
one_bad_counts bytes i j (many long above is) (many far high other) = is ∙ sym other
one_bad_counts bytes i j (many long above is) (entry n before rest place whole low wanting are bad other) = absurd (omega (arith, above, low, few_in_front n bytes (flat_map entry_spelled before ++ rest) low whole))
one_bad_counts bytes i j (entry n before rest place whole low wanting are bad is) (short less other) = absurd (omega (arith, less, long_front n bytes (flat_map entry_spelled before ++ rest) whole))
one_bad_counts bytes i j (entry n before rest place whole low wanting are bad is) (many long above other) = absurd (omega (arith, above, low, few_in_front n bytes (flat_map entry_spelled before ++ rest) low whole))
one_bad_counts bytes i j (entry m es x place whole low_m wanting are bad is) (entry n bs y spot total low_n lacking too worse other) =
    let numbers = same_number 4 m n (flat_map entry_spelled es ++ x) (flat_map entry_spelled bs ++ y) (omega (arith, low_m)) (omega (arith, low_n)) (sym whole ∙ total) in
    elim (cases_lt (length es) (length bs)) [
      | inl less ↦ absurd (not_next es bs x y place too are.ranges less numbers.1 bad)
      | inr le ↦ elim (cases_lt (length bs) (length es)) [
        | inl less ↦ absurd (not_next bs es y x spot are too.ranges less (sym numbers.1) worse)
        | inr ge ↦
            let long : length es ≡ length bs = omega (arith, le, ge) in
            let same = same_entries es bs x y long are.ranges too.ranges numbers.1 in
            let there = subst (λ t. IsBadEntry es t spot) (sym same.1) (subst (λ es. IsBadEntry es y spot) (sym same.0) worse) in
            let places = one_bad_entry es x place spot bad there in
            omega (arith, is, other, places, long)
      ]
    ]

-- what counts begin is wrong nowhere, but for want of bytes
pub cut_counts : (counts : List (ℕ × ℤ)) (bytes more y : List ℕ) (at : ℕ) → AreRightCounts counts → bytes ++ more ≡ counts_spelled counts ++ y → IsBadCounts bytes at → (at ≡ length bytes) × (length bytes < 4 + 16 * length counts)
cut_counts counts bytes more y at are e bad = cut bad
  where
    grouped : bytes ++ more ≡ number_spelled 4 (length counts) ++ (flat_map entry_spelled counts ++ y)
    grouped = e ∙ append_assoc (number_spelled 4 (length counts)) (flat_map entry_spelled counts) y

    cut : IsBadCounts bytes at → (at ≡ length bytes) × (length bytes < 4 + 16 * length counts)
    cut (short few is) = (is, omega (arith, few))
    cut (many long above is) =
        let number = sym (read_front 4 bytes more long) ∙ ap (number_read 4) grouped ∙ number_read-spelled 4 (length counts) (flat_map entry_spelled counts ++ y) (omega (arith, are.1)) in
        absurd (omega (arith, above, number, are.1))
    cut (entry n before rest place whole low wanting right wrong is) =
        let left : bytes ++ more ≡ number_spelled 4 n ++ (flat_map entry_spelled before ++ (rest ++ more)) =
        ap (λ t. t ++ more) whole ∙ append_assoc (number_spelled 4 n) (flat_map entry_spelled before ++ rest) more ∙ ap (λ t. number_spelled 4 n ++ t) (append_assoc (flat_map entry_spelled before) rest more) in
        let numbers = same_number 4 n (length counts) (flat_map entry_spelled before ++ (rest ++ more)) (flat_map entry_spelled counts ++ y) (omega (arith, low)) (omega (arith, are.1)) (sym left ∙ grouped) in
        let has = has_next before counts (rest ++ more) y (omega (arith, wanting, numbers.0)) right.ranges are.0.ranges numbers.1 in
        let fewer = cut_entry before has.after has.next rest more (flat_map entry_spelled has.after ++ y) place (subst AreEntries {y = before ++ (has.next ∷ has.after)} has.is are.0) has.begins wrong in
        let bytes_are = ap length whole in
        let all = length-append (number_spelled 4 n) (flat_map entry_spelled before ++ rest) in
        let entries = length-append (flat_map entry_spelled before) rest in (
          omega (arith, is, fewer.0, bytes_are, all, entries, length-number_spelled 4 n, length-entries before),
          omega (arith, fewer.1, bytes_are, all, entries, length-number_spelled 4 n, length-entries before, wanting, numbers.0),
        )

pub no_bad_counts : (counts : List (ℕ × ℤ)) (bytes y : List ℕ) (at : ℕ) → AreRightCounts counts → bytes ≡ counts_spelled counts ++ y → ¬ IsBadCounts bytes at
no_bad_counts counts bytes y at are e bad =
    let cut = cut_counts counts bytes [] y at are (append-nil bytes ∙ e) bad in
    omega (arith, cut.1, ap length e, length-append (counts_spelled counts) y, length-counts_spelled counts)
