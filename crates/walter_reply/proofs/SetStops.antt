-- Where a reader of a Set stops, its counts are wrong.
use Rattle.std.proofs.Common.{◌≡◌, ◌↔◌, ℕ, ◌+◌, ◌*◌, ◌-◌, ◌^◌, ◌≢◌, ◌<◌, ◌≤◌, List, [], ◌∷◌, ◌++◌, length, get_or, drop, Some, slice_get, refl, sym, ap, subst, ◌∙◌, inl, inr, arith}
use Rattle.std.specs.Prelude.{ℤ, pos, flat_map, AllPairs, IsTrue, nat_lt}
use Rattle.std.specs.Int.{w64, cast_unsigned}
use Rattle.std.proofs.lemmas.Bool.{cases_lt}
use Rattle.std.proofs.lemmas.Bool.Decides.{Decides-ltb}
use Rattle.std.proofs.lemmas.List.{length-append, drop_at}
use Rattle.std.proofs.lemmas.Option.{slice_get-get_or}
use Rattle.walter_fields.specs.Spellings.{number_spelled, number_read, signed_spelled}
use Rattle.walter_fields.proofs.Numbers.{length-number_spelled, number_spelled-byte, number_read-spelled}
use Rattle.std.proofs.lemmas.List.{flat_map_more}
use Rattle.std.proofs.lemmas.List.Elements.{All-push}
use Rattle.std.proofs.lemmas.List.Quantifiers.{all_pairs_push}
use Rattle.walter_fields.specs.Cursors.{Remainder, Takes}
use Rattle.walter_fields.proofs.Readings.{Takes-then}
use Rattle.walter_reply.specs.Stops.{StopsBehind}
use Rattle.walter_reply.specs.declared.fault.Stop.{Stop}
use Rattle.walter_reply.specs.Replies.{IsBadSet}
use Rattle.walter_reply.proofs.Sets.{length-entries}
use Rattle.walter_reply.specs.Sets.{entry_spelled, IsEntry, AreEntries, IsAbove, IsBadEntry, IsBadCounts, many, entry, falls, short_count, zero_count}

-- ---- the ids before

same_last : (entries : List (ℕ × ℤ)) (last d : ℕ × ℤ) → 0 < length entries → Some last ≡ slice_get entries (length entries - 1) → last ≡ get_or entries (length entries - 1) d
same_last entries last d some is =
    let e : Some last ≡ Some (get_or entries (length entries - 1) d) = is ∙ slice_get-get_or entries (length entries - 1) d (omega (arith, some)) in
    cc

some_entries : (entries : List (ℕ × ℤ)) (last : ℕ × ℤ) → Some last ≡ slice_get entries (length entries - 1) → 0 < length entries
some_entries [] last is = absurd (cc)
some_entries (a ∷ es) last is = omega arith

-- above the last is above all
pub last_tells : (entries : List (ℕ × ℤ)) (last : ℕ × ℤ) (id : ℕ) → AllPairs (λ a b. a.0 < b.0) entries → Some last ≡ slice_get entries (length entries - 1) → IsTrue (nat_lt last.0 id) ↔ IsAbove entries id
last_tells entries last id pairs is = (λ less. above ((Decides-ltb last.0 id).0 less), λ all. (Decides-ltb last.0 id).1 (below all))
  where
    some : 0 < length entries
    some = some_entries entries last is

    above : last.0 < id → IsAbove entries id
    above high k d within =
        let end = ap (λ (e : ℕ × ℤ). e.0) (same_last entries last d some is) in
        elim (cases_lt k (length entries - 1)) [
          | inl less ↦ let rises = pairs k (length entries - 1) d less (omega (arith, some)) in omega (arith, rises, end, high)
          | inr le ↦
              let same : k ≡ length entries - 1 = omega (arith, le, within) in
              let here = ap (λ (i : ℕ). (get_or entries i d).0) same in
              omega (arith, here, end, high)
        ]

    below : IsAbove entries id → last.0 < id
    below all =
        let high = all (length entries - 1) last (omega (arith, some)) in
        let end = ap (λ (e : ℕ × ℤ). e.0) (same_last entries last last some is) in
        omega (arith, high, end)

-- ---- a place in a Set

pub bad_at : (fields : List ℕ) (place at : ℕ) → at ≡ 1 + place → IsBadCounts fields place → IsBadSet (number_spelled 1 0x83 ++ fields) at
bad_at fields place at there bad = record { fields = fields; place = place; is = ap (λ t. t ++ fields) (number_spelled-byte 0x83 (omega arith)); bad = bad; there = there }

pub cut_at : (fields : List ℕ) → IsBadCounts fields (length fields) → IsBadSet (number_spelled 1 0x83 ++ fields) (length (number_spelled 1 0x83 ++ fields))
cut_at fields bad = bad_at fields (length fields) (length (number_spelled 1 0x83 ++ fields)) (omega (arith, length-append (number_spelled 1 0x83) fields, length-number_spelled 1 0x83)) bad

-- behind right entries there is none
pub entry_at : (n : ℕ) (before : List (ℕ × ℤ)) (left : List ℕ) (place at : ℕ) → AreEntries before → n ≤ 4095 → length before < n → at ≡ 5 + 16 * length before + place → IsBadEntry before left place
    → IsBadSet (number_spelled 1 0x83 ++ (number_spelled 4 n ++ (flat_map entry_spelled before ++ left))) at
entry_at n before left place at are low few there bad =
    bad_at (number_spelled 4 n ++ (flat_map entry_spelled before ++ left)) (4 + 16 * length before + place) at (omega (arith, there)) (entry n before left place refl low few are bad refl)

pub entry_cut : (n : ℕ) (before : List (ℕ × ℤ)) (left : List ℕ) → AreEntries before → n ≤ 4095 → length before < n → IsBadEntry before left (length left)
    → IsBadSet (number_spelled 1 0x83 ++ (number_spelled 4 n ++ (flat_map entry_spelled before ++ left))) (length (number_spelled 1 0x83 ++ (number_spelled 4 n ++ (flat_map entry_spelled before ++ left))))
entry_cut n before left are low few bad =
    let entries = flat_map entry_spelled before ++ left in
    let fields = number_spelled 4 n ++ entries in
    cut_at fields (entry n before left (length left) refl low few are bad (omega (arith, length-append (number_spelled 4 n) entries, length-append (flat_map entry_spelled before) left, length-number_spelled 4 n, length-entries before)))

-- ---- an entry

id_read : (left mid : List ℕ) (id : ℕ) → id < 2 ^ 64 → left ≡ number_spelled 8 id ++ mid → number_read 8 left ≡ id
id_read left mid id low is = ap (number_read 8) is ∙ number_read-spelled 8 id mid (omega (arith, low))

id_long : (left mid : List ℕ) (id : ℕ) → left ≡ number_spelled 8 id ++ mid → length left ≡ 8 + length mid
id_long left mid id is = omega (arith, ap length is, length-append (number_spelled 8 id) mid, length-number_spelled 8 id)

pub id_falls : (before : List (ℕ × ℤ)) (left mid : List ℕ) (id : ℕ) → id < 2 ^ 64 → left ≡ number_spelled 8 id ++ mid → ¬ IsAbove before id → IsBadEntry before left 0
id_falls before left mid id low is not = falls (omega (arith, id_long left mid id is)) (subst (λ k. ¬ IsAbove before k) (sym (id_read left mid id low is)) not) refl

pub count_cut : (before : List (ℕ × ℤ)) (left mid : List ℕ) (id : ℕ) → id < 2 ^ 64 → left ≡ number_spelled 8 id ++ mid → IsAbove before id → length mid < 8 → IsBadEntry before left (length left)
count_cut before left mid id low is above few =
    let long = id_long left mid id is in
    short_count (omega (arith, long)) (omega (arith, long, few)) (subst (IsAbove before) (sym (id_read left mid id low is)) above) refl

pub count_zero : (before : List (ℕ × ℤ)) (left mid rest : List ℕ) (id : ℕ) (count : ℤ) → id < 2 ^ 64 → left ≡ number_spelled 8 id ++ mid → IsAbove before id → mid ≡ signed_spelled count ++ rest → cast_unsigned w64 count ≡ 0 → IsBadEntry before left 8
count_zero before left mid rest id count low is above behind zero_is =
    zero_count rest (omega (arith, id_long left mid id is)) (subst (IsAbove before) (sym (id_read left mid id low is)) above)
    (ap (drop 8) is ∙ drop_at (number_spelled 8 id) mid 8 (length-number_spelled 8 id) ∙ behind ∙ ap (λ n. number_spelled 8 n ++ rest) zero_is) refl

-- ---- entries

pub more_entries : (entries : List (ℕ × ℤ)) (next : ℕ × ℤ) → AreEntries entries → IsEntry next → IsAbove entries next.0 → next.1 ≢ pos 0 → AreEntries (entries ++ next ∷ [])
more_entries entries next are fits above some = record {
  ranges = All-push IsEntry entries next are.ranges fits;
  rising = all_pairs_push (λ a b. a.0 < b.0) entries next are.rising above;
  counted = All-push (λ e. e.1 ≢ pos 0) entries next are.counted some;
}

pub takes_more : (old mid new : Remainder) (entries : List (ℕ × ℤ)) (next : ℕ × ℤ) → Takes old mid (flat_map entry_spelled entries) → Takes mid new (entry_spelled next) → Takes old new (flat_map entry_spelled (entries ++ next ∷ []))
takes_more old mid new entries next first second = subst (Takes old new) (flat_map_more entry_spelled [] entries next) (Takes-then old mid new (flat_map entry_spelled entries) (entry_spelled next) first second)

-- behind entries that were read
pub stops_in : (n : ℕ) (entries : List (ℕ × ℤ)) (whole left : List ℕ) (stop : Stop) → whole ≡ flat_map entry_spelled entries ++ left → StopsBehind 0x83 (number_spelled 4 n ++ (flat_map entry_spelled entries ++ left)) stop
    → StopsBehind 0x83 (number_spelled 4 n ++ whole) stop
stops_in n entries whole left stop is stops = subst (λ t. StopsBehind 0x83 (number_spelled 4 n ++ t) stop) (sym is) stops

pub too_many : (n : ℕ) (left rest : List ℕ) → n < 2 ^ 32 → left ≡ number_spelled 4 n ++ rest → 4095 < n → IsBadCounts left 0
too_many n left rest low is above =
    let number : number_read 4 left ≡ n = ap (number_read 4) is ∙ number_read-spelled 4 n rest (omega (arith, low)) in
    many (omega (arith, ap length is, length-append (number_spelled 4 n) rest, length-number_spelled 4 n)) (omega (arith, number, above)) refl
