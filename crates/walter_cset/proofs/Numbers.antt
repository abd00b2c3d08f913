-- The entries of a tally whose number isn't 0 are the numbers of the tally.
use Rattle.std.proofs.Common.{◌≡◌, ◌≢◌, ℕ, zero, suc, ◌<◌, Bool, true, false, List, Option, Some, None, refl, ap, sym, ◌∙◌, arith, map}
use Rattle.std.specs.Prelude.{ℤ, pos, negsuc, AllPairs, Contains, filter}
use Rattle.std.specs.Option.{unwrap_or}
use Rattle.std.specs.Ordering.{nat_cmp}
use Rattle.std.specs.Cmp.{nat_cmp_total}
use Rattle.std.specs.BTreeMap.{BTreeMap, IsOrdered, get}
use Rattle.std.proofs.lemmas.List.{get_or-map, length-map}
use Rattle.std.proofs.lemmas.List.Elements.{All-filter, All-contains, All-contains_itself, filter_passes}
use Rattle.std.proofs.lemmas.List.Kept.{AllPairs-filter}
use Rattle.std.proofs.lemmas.Map.Keys.{below_from_sorted}
use Rattle.std.proofs.lemmas.Map.Lookups.{exact_unsigned}
use Rattle.std.proofs.lemmas.Map.Views.{btree_map_get_iff}
use Rattle.walter_base.specs.declared.names.ObjId.{ObjId}
use Rattle.walter_base.specs.declared.update.Update.{Update}
use Rattle.walter_base.specs.Values.{count_of, AreCounts}
use Rattle.walter_base.proofs.Counted.{All-Contains_filter}
use Rattle.walter_cset.specs.Tallies.{number_at, AreNumbers}

abbrev pub is_other_than_0 : ℤ → Bool
is_other_than_0 (pos zero) = false
is_other_than_0 (pos (suc n)) = true
is_other_than_0 (negsuc n) = true

abbrev pub others_than_0 : List (ℕ × ℤ) → List (ℕ × ℤ)
others_than_0 entries = filter (λ e. is_other_than_0 e.1) entries

not_0 : (n : ℤ) → is_other_than_0 n ≡ true → n ≢ pos 0
not_0 (pos zero) is = absurd cc
not_0 (pos (suc n)) is = λ same. cc
not_0 (negsuc n) is = λ same. cc

other_than_0 : (n : ℤ) → n ≢ pos 0 → is_other_than_0 n ≡ true
other_than_0 (pos zero) apart = absurd (apart refl)
other_than_0 (pos (suc n)) apart = refl
other_than_0 (negsuc n) apart = refl

pub rising_entries : (tally : BTreeMap ℕ ℤ) → IsOrdered nat_cmp tally → AllPairs (λ a b. a.0 < b.0) tally.entries
rising_entries tally ordered i j d before within =
    let names = λ (e : ℕ × ℤ). e.0 in
    let here = get_or-map names tally.entries i d 0 (omega (arith, before, within)) in
    let behind = get_or-map names tally.entries j d 0 within in
    let rises = below_from_sorted (map names tally.entries) i j 0 ordered before (omega (arith, length-map tally.entries names, within)) in
    omega (arith, here, behind, rises)

-- the number that an entry has
number_found : (tally : BTreeMap ℕ ℤ) (id : ℕ) (n : ℤ) → get nat_cmp tally id ≡ Some n → number_at tally id ≡ n
number_found tally id n is = ap (λ o. unwrap_or o (pos 0)) is

found : (o : Option ℤ) (n : ℤ) → unwrap_or o (pos 0) ≡ n → n ≢ pos 0 → o ≡ Some n
found None n is apart = absurd (apart (sym is))
found (Some m) n is apart = ap (λ k. Some k) is

pub are_numbers : (tally : BTreeMap ℕ ℤ) → IsOrdered nat_cmp tally → AreNumbers (number_at tally) (others_than_0 tally.entries)
are_numbers tally ordered = record {
  rising = AllPairs-filter (λ a b. a.0 < b.0) (λ e. is_other_than_0 e.1) tally.entries (rising_entries tally ordered);
  held = λ id n. (
    λ stands.
        let within = All-contains (Contains tally.entries) (others_than_0 tally.entries) (id, n) (All-filter (λ e. is_other_than_0 e.1) (Contains tally.entries) tally.entries (All-contains_itself tally.entries)) stands in
        let passes = All-contains (λ e. is_other_than_0 e.1 ≡ true) (others_than_0 tally.entries) (id, n) (filter_passes (λ e. is_other_than_0 e.1) tally.entries) stands in
        (number_found tally id n ((btree_map_get_iff nat_cmp_total exact_unsigned tally ordered id n).1 within), not_0 n passes),
    λ is.
        let within = (btree_map_get_iff nat_cmp_total exact_unsigned tally ordered id n).0 (found (get nat_cmp tally id) n is.0 is.1) in
        All-contains (λ e. is_other_than_0 e.1 ≡ true → Contains (others_than_0 tally.entries) e) tally.entries (id, n) (All-Contains_filter (λ e. is_other_than_0 e.1) tally.entries) within (other_than_0 n is.1),
  );
}

-- the same of numbers that are equal
pub same_numbers : (number other : ℕ → ℤ) (counts : List (ℕ × ℤ)) → ((id : ℕ) → number id ≡ other id) → AreNumbers number counts → AreNumbers other counts
same_numbers number other counts same are = record {
  rising = are.rising;
  held = λ id n. (
    λ stands. let is = (are.held id n).0 stands in (sym (same id) ∙ is.0, is.1),
    λ is. (are.held id n).1 (same id ∙ is.0, is.1),
  );
}

-- numbers that are the counts of a set
pub are_counts : (number : ℕ → ℤ) (oid : ObjId) (updates : List Update) (counts : List (ℕ × ℤ)) → ((id : ℕ) → number id ≡ count_of oid id updates)
    → AreNumbers number counts → AreCounts oid updates counts
are_counts number oid updates counts same are =
    let all = same_numbers number (λ id. count_of oid id updates) counts same are in
    record { rising = all.rising; held = all.held }
