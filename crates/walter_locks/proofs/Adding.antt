-- What a number that is put to intervals makes of them.
use Rattle.std.proofs.Common.{◌≡◌, ◌≤◌, ◌+◌, ℕ, suc, min, max, Bool, true, false, not, cond, nat_eq, nat_lt, ◌||◌, List, [], ◌∷◌, ◌++◌, drop, length, refl, ap, sym, ◌∙◌, subst, arith, if◌then◌else◌}
use Rattle.std.specs.Prelude.{position, Some, None}
use Rattle.std.specs.List.{position_or_len}
use Rattle.std.proofs.lemmas.List.{take_all, drop_all}
use Rattle.std.proofs.lemmas.Bool.{ltb-true, ltb-false, eqb-true, eqb-false}
use Rattle.walter_locks.specs.declared.interval.Interval.{Interval}
use Rattle.walter_locks.specs.Intervals.{is_in, is_among, RiseApart}
use Rattle.walter_locks.specs.Adding.{is_before, interval_to, joined, put_first, put_at}
use Rattle.walter_locks.proofs.Numbers.{one_number, two_intervals, wider_interval}

or_assoc : (a b c : Bool) → ((a || b) || c) ≡ (a || (b || c))
or_assoc true b c = refl
or_assoc false b c = refl

or_swap : (a b c : Bool) → (a || (b || c)) ≡ (b || (a || c))
or_swap true true c = refl
or_swap true false c = refl
or_swap false true c = refl
or_swap false false c = refl

from_smaller : (less from : ℕ) (intervals : List Interval) → less ≤ from → RiseApart from intervals → RiseApart less intervals
from_smaller less from [] le rise = tt
from_smaller less from (interval ∷ intervals) le rise = (omega (arith, le, rise.0), rise.1, rise.2)

-- the first of the intervals joined with the second, where they touch
joined_apart : (from first last : ℕ) (intervals : List Interval) → from ≤ first → first ≤ last → RiseApart (last + 1) intervals → RiseApart from (joined (interval_to first last ∷ intervals))
joined_apart from first last [] low some rise = (low, some, tt)
joined_apart from first last (next ∷ intervals) low some rise = elim (nat_eq (last + 1) next.first) as (λ b. nat_eq (last + 1) next.first ≡ b → RiseApart from (if b then interval_to first next.last ∷ intervals else interval_to first last ∷ next ∷ intervals)) [
  | true ↦ λ touch. (low, omega (arith, some, rise.0, rise.1), rise.2)
  | false ↦ λ apart. (low, some, (omega (arith, rise.0, eqb-false (last + 1) next.first apart), rise.1, rise.2))
] refl

joined_among : (m first last : ℕ) (intervals : List Interval) → first ≤ last → RiseApart (last + 1) intervals → is_among m (joined (interval_to first last ∷ intervals)) ≡ (is_in m (interval_to first last) || is_among m intervals)
joined_among m first last [] some rise = refl
joined_among m first last (next ∷ intervals) some rise = elim (nat_eq (last + 1) next.first) as (λ b. nat_eq (last + 1) next.first ≡ b
    → is_among m (if b then interval_to first next.last ∷ intervals else interval_to first last ∷ next ∷ intervals) ≡ (is_in m (interval_to first last) || (is_in m next || is_among m intervals))) [
      | true ↦ λ touch. ap (λ b. b || is_among m intervals) (two_intervals m first last next.first next.last some rise.1 (eqb-true (last + 1) next.first touch))
          ∙ or_assoc (is_in m (interval_to first last)) (is_in m next) (is_among m intervals)
      | false ↦ λ apart. refl
    ] refl

-- a number that the first of the intervals isn't before
first_apart : (n from : ℕ) (interval : Interval) (intervals : List Interval) → RiseApart from (interval ∷ intervals) → from ≤ n → n ≤ interval.last + 1 → RiseApart from (put_first n (interval ∷ intervals))
first_apart n from interval intervals rise low high = elim (nat_lt (n + 1) interval.first) as (λ b. nat_lt (n + 1) interval.first ≡ b
    → RiseApart from (if b then interval_to n n ∷ interval ∷ intervals else joined (interval_to (min interval.first n) (max interval.last n) ∷ intervals))) [
      | true ↦ λ past. (low, omega arith, (omega (arith, ltb-true (n + 1) interval.first past), rise.1, rise.2))
      | false ↦ λ near. joined_apart from (min interval.first n) (max interval.last n) intervals (omega (arith, rise.0, low)) (omega (arith, rise.1))
          (from_smaller (max interval.last n + 1) (interval.last + 2) intervals (omega (arith, high)) rise.2)
    ] refl

first_among : (m n from : ℕ) (interval : Interval) (intervals : List Interval) → RiseApart from (interval ∷ intervals) → n ≤ interval.last + 1 → is_among m (put_first n (interval ∷ intervals)) ≡ (nat_eq n m || is_among m (interval ∷ intervals))
first_among m n from interval intervals rise high = elim (nat_lt (n + 1) interval.first) as (λ b. nat_lt (n + 1) interval.first ≡ b
    → is_among m (if b then interval_to n n ∷ interval ∷ intervals else joined (interval_to (min interval.first n) (max interval.last n) ∷ intervals)) ≡ (nat_eq n m || (is_in m interval || is_among m intervals))) [
      | true ↦ λ past. ap (λ b. b || (is_in m interval || is_among m intervals)) (one_number m n)
      | false ↦ λ near.
          joined_among m (min interval.first n) (max interval.last n) intervals (omega (arith, rise.1)) (from_smaller (max interval.last n + 1) (interval.last + 2) intervals (omega (arith, high)) rise.2)
          ∙ ap (λ b. b || is_among m intervals) (wider_interval m n interval.first interval.last rise.1 (ltb-false (n + 1) interval.first near) high)
          ∙ or_assoc (nat_eq n m) (is_in m interval) (is_among m intervals)
    ] refl

-- past the intervals that are before the number
abbrev with_number : ℕ → List Interval → List Interval
with_number n [] = put_first n []
with_number n (interval ∷ intervals) = if is_before n interval then interval ∷ with_number n intervals else put_first n (interval ∷ intervals)

number_apart : (n from : ℕ) (intervals : List Interval) → RiseApart from intervals → from ≤ n → RiseApart from (with_number n intervals)
number_apart n from [] rise low = (low, omega arith, tt)
number_apart n from (interval ∷ intervals) rise low = elim (is_before n interval) as (λ b. is_before n interval ≡ b → RiseApart from (if b then interval ∷ with_number n intervals else put_first n (interval ∷ intervals))) [
  | true ↦ λ before. (rise.0, rise.1, number_apart n (interval.last + 2) intervals rise.2 (omega (arith, ltb-true (interval.last + 1) n before)))
  | false ↦ λ near. first_apart n from interval intervals rise low (ltb-false (interval.last + 1) n near)
] refl

number_among : (m n from : ℕ) (intervals : List Interval) → RiseApart from intervals → is_among m (with_number n intervals) ≡ (nat_eq n m || is_among m intervals)
number_among m n from [] rise = ap (λ b. b || false) (one_number m n)
number_among m n from (interval ∷ intervals) rise = elim (is_before n interval) as (λ b. is_before n interval ≡ b → is_among m (if b then interval ∷ with_number n intervals else put_first n (interval ∷ intervals)) ≡ (nat_eq n m || (is_in m interval || is_among m intervals))) [
  | true ↦ λ before. ap (λ b. is_in m interval || b) (number_among m n (interval.last + 2) intervals rise.2) ∙ or_swap (is_in m interval) (nat_eq n m) (is_among m intervals)
  | false ↦ λ near. first_among m n from interval intervals rise (ltb-false (interval.last + 1) n near)
] refl

abbrev place_of : ℕ → List Interval → ℕ
place_of n intervals = position_or_len (λ interval. not (is_before n interval)) intervals

at_place : (n : ℕ) (intervals : List Interval) → put_at n (place_of n intervals) intervals ≡ with_number n intervals
at_place n [] = refl
at_place n (interval ∷ intervals) = elim (is_before n interval) as (λ b. put_at n (cond (not (not b)) (1 + place_of n intervals) 0) (interval ∷ intervals) ≡ (if b then interval ∷ with_number n intervals else put_first n (interval ∷ intervals))) [
  | true ↦ let more : suc (place_of n intervals) ≡ 1 + place_of n intervals = omega arith in subst (λ k. put_at n k (interval ∷ intervals) ≡ interval ∷ with_number n intervals) more (ap (λ rs. interval ∷ rs) (at_place n intervals))
  | false ↦ refl
]

pub record Adds (n : ℕ) (old new : List Interval) : Type 0 where
  pub apart : RiseApart 0 new
  pub among : (m : ℕ) → is_among m new ≡ (nat_eq n m || is_among m old)

adds_number : (n : ℕ) (intervals : List Interval) → RiseApart 0 intervals → Adds n intervals (put_at n (place_of n intervals) intervals)
adds_number n intervals rise = record {
  apart = subst (RiseApart 0) (sym (at_place n intervals)) (number_apart n 0 intervals rise (omega arith));
  among = λ m. ap (is_among m) (at_place n intervals) ∙ number_among m n 0 intervals rise;
}

place_found : (b : Bool) (place found : ℕ) → cond b (Some place) None ≡ Some found → place ≡ found
place_found true place found is = cc
place_found false place found is = absurd (cc)

no_place : (b : Bool) (place : ℕ) → cond b (Some place) None ≡ None → b ≡ false
no_place true place is = absurd (cc)
no_place false place is = refl

-- at the place that a search found
pub adds_at : (n place : ℕ) (intervals : List Interval) → RiseApart 0 intervals → position (λ interval. not (is_before n interval)) intervals ≡ Some place → Adds n intervals (put_at n place intervals)
adds_at n place intervals rise is = subst (λ p. Adds n intervals (put_at n p intervals)) (place_found (nat_lt (place_of n intervals) (length intervals)) (place_of n intervals) place is) (adds_number n intervals rise)

-- and behind all, where it found none
pub adds_behind : (n : ℕ) (intervals : List Interval) → RiseApart 0 intervals → position (λ interval. not (is_before n interval)) intervals ≡ None → Adds n intervals (intervals ++ interval_to n n ∷ [])
adds_behind n intervals rise none =
    let past = ltb-false (place_of n intervals) (length intervals) (no_place (nat_lt (place_of n intervals) (length intervals)) (place_of n intervals) none) in
    subst (Adds n intervals) (ap (λ rs. rs ++ put_first n (drop (place_of n intervals) intervals)) (take_all (place_of n intervals) intervals past) ∙ ap (λ rs. intervals ++ put_first n rs) (drop_all (place_of n intervals) intervals past))
    (adds_number n intervals rise)
