-- Tests of intervals, as facts on numbers.
use Rattle.std.proofs.Common.{◌≡◌, ◌≤◌, ◌+◌, ℕ, min, max, Bool, true, false, nat_eq, nat_le, ◌&&◌, ◌||◌, refl, arith}
use Rattle.std.proofs.lemmas.Bool.{leb-true, leb-false, le-leb, eqb-true, eqb-false, eq-eqb}
use Rattle.walter_base.proofs.NameTests.{both}
use Rattle.walter_locks.specs.Intervals.{is_in}
use Rattle.walter_locks.specs.Adding.{interval_to}

-- two tests that are true of the same
pub same_tests : (a b : Bool) → (a ≡ true → b ≡ true) → (b ≡ true → a ≡ true) → a ≡ b
same_tests true true f g = refl
same_tests true false f g = let no = f refl in absurd (cc)
same_tests false true f g = let no = g refl in absurd (cc)
same_tests false false f g = refl

pub first_holds : (a b : Bool) → a ≡ true → (a || b) ≡ true
first_holds true b h = refl
first_holds false b h = absurd (cc)

pub second_holds : (a b : Bool) → b ≡ true → (a || b) ≡ true
second_holds true b h = refl
second_holds false b h = h

-- what holds in both cases of a test that is true
pub by_cases : (P : Type 0) (a b : Bool) → (a || b) ≡ true → (a ≡ true → P) → (b ≡ true → P) → P
by_cases P true b h f g = f refl
by_cases P false b h f g = g h

both_hold : (a b : Bool) → a ≡ true → b ≡ true → (a && b) ≡ true
both_hold true b h k = k
both_hold false b h k = absurd (cc)

pub within : (m first last : ℕ) → is_in m (interval_to first last) ≡ true → (first ≤ m) × (m ≤ last)
within m first last is =
    let parts = both (nat_le first m) (nat_le m last) is in
    (leb-true first m parts.0, leb-true m last parts.1)

pub is_within : (m first last : ℕ) → first ≤ m → m ≤ last → is_in m (interval_to first last) ≡ true
is_within m first last low high = both_hold (nat_le first m) (nat_le m last) (le-leb first m low) (le-leb m last high)

-- an interval of one number
pub one_number : (m n : ℕ) → is_in m (interval_to n n) ≡ nat_eq n m
one_number m n = same_tests (is_in m (interval_to n n)) (nat_eq n m)
    (λ is. let w = within m n n is in eq-eqb n m (omega (arith, w.0, w.1)))
    (λ is. let e = eqb-true n m is in is_within m n n (omega (arith, e)) (omega (arith, e)))

-- two intervals that touch
pub two_intervals : (m first last next end : ℕ) → first ≤ last → next ≤ end → last + 1 ≡ next → is_in m (interval_to first end) ≡ (is_in m (interval_to first last) || is_in m (interval_to next end))
two_intervals m first last next end some also touch = same_tests (is_in m (interval_to first end)) (is_in m (interval_to first last) || is_in m (interval_to next end))
    (λ is. let w = within m first end is in elim (nat_le m last) as (λ b. nat_le m last ≡ b → (is_in m (interval_to first last) || is_in m (interval_to next end)) ≡ true) [
      | true ↦ λ low. first_holds (is_in m (interval_to first last)) (is_in m (interval_to next end)) (is_within m first last w.0 (leb-true m last low))
      | false ↦ λ high. second_holds (is_in m (interval_to first last)) (is_in m (interval_to next end)) (is_within m next end (omega (arith, leb-false m last high, touch)) w.1)
    ] refl)
    (λ is. by_cases (is_in m (interval_to first end) ≡ true) (is_in m (interval_to first last)) (is_in m (interval_to next end)) is
    (λ low. let w = within m first last low in is_within m first end w.0 (omega (arith, w.1, touch, also)))
    (λ high. let w = within m next end high in is_within m first end (omega (arith, w.0, touch, some)) w.1))

-- an interval, up to a number that is next to it or in it, or from one
pub wider_interval : (m n first last : ℕ) → first ≤ last → first ≤ n + 1 → n ≤ last + 1 → is_in m (interval_to (min first n) (max last n)) ≡ (nat_eq n m || is_in m (interval_to first last))
wider_interval m n first last some low high = same_tests (is_in m (interval_to (min first n) (max last n))) (nat_eq n m || is_in m (interval_to first last))
    (λ is. let w = within m (min first n) (max last n) is in elim (nat_eq n m) as (λ b. nat_eq n m ≡ b → (b || is_in m (interval_to first last)) ≡ true) [
      | true ↦ λ e. refl
      | false ↦ λ e. is_within m first last (omega (arith, w.0, w.1, low, high, some, eqb-false n m e)) (omega (arith, w.0, w.1, low, high, some, eqb-false n m e))
    ] refl)
    (λ is. by_cases (is_in m (interval_to (min first n) (max last n)) ≡ true) (nat_eq n m) (is_in m (interval_to first last)) is
    (λ e. let same = eqb-true n m e in is_within m (min first n) (max last n) (omega (arith, same)) (omega (arith, same)))
    (λ here. let w = within m first last here in is_within m (min first n) (max last n) (omega (arith, w.0)) (omega (arith, w.1))))
