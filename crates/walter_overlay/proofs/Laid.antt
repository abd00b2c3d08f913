-- Counts that are laid id by id.
use Rattle.std.proofs.Common.{◌≡◌, ◌≢◌, ℕ, suc, ◌+◌, ◌<◌, ◌≤◌, ◌++◌, ◌⊎◌, inl, inr, Bool, true, false, cond, nat_eq, List, [], ◌∷◌, length, get_or, Option, Some, None, refl, ap, sym, ◌∙◌, subst, arith, if◌then◌else◌}
use Rattle.std.specs.Prelude.{ℤ, zero, pos, negsuc, ◌+ℤ◌, AllPairs, Contains}
use Rattle.std.specs.BTreeMap.{is_at}
use Rattle.std.specs.Map.{lookup}
use Rattle.std.specs.Option.{unwrap_or}
use Rattle.std.specs.Ordering.{nat_cmp}
use Rattle.std.proofs.lemmas.Bool.{cases_lt, eqb-true, eq-eqb}
use Rattle.std.proofs.lemmas.Bool.Decides.{nat_tests}
use Rattle.std.proofs.lemmas.Int.{ints}
use Rattle.std.proofs.lemmas.List.{get_or_default}
use Rattle.std.proofs.lemmas.List.Elements.{Contains-append_left, Contains-push, Contains-push_cases, All-contains, All-from_recursion}
use Rattle.std.proofs.lemmas.List.Quantifiers.{all_pairs_push}
use Rattle.std.proofs.lemmas.Map.{none_passes_from_lookup}
use Rattle.std.proofs.lemmas.Map.Views.{Contains-from_lookup}
use Rattle.walter_cset.specs.Tallies.{number_in, AreNumbers}
use Rattle.walter_overlay.specs.Laying.{IsRisingFrom, AreNumbersBelow, AreLaid, IsBehind}

test_same : (a b : ℕ) → is_at (nat_cmp a) b ≡ nat_eq a b
test_same a b = grind (arith, nat_tests)

below_apart : (a b : ℕ) → a < b → nat_eq a b ≡ false
below_apart a b less = grind (arith, nat_tests, less)

above_apart : (a b : ℕ) → b < a → nat_eq a b ≡ false
above_apart a b more = grind (arith, nat_tests, more)

-- the number of an id by the first entry
by_first : (e : ℕ × ℤ) (es : List (ℕ × ℤ)) (id : ℕ) → number_in (e ∷ es) id ≡ (if nat_eq id e.0 then e.1 else number_in es id)
by_first e es id = ap (λ b. unwrap_or (cond b (Some e.1) (lookup (is_at (nat_cmp id)) es)) (pos 0)) (test_same id e.0) ∙ by (nat_eq id e.0)
  where
    by : (b : Bool) → unwrap_or (cond b (Some e.1) (lookup (is_at (nat_cmp id)) es)) (pos 0) ≡ (if b then e.1 else number_in es id)
    by true = refl
    by false = refl

pub at_first : (id : ℕ) (n : ℤ) (es : List (ℕ × ℤ)) → number_in ((id, n) ∷ es) id ≡ n
at_first id n es = by_first (id, n) es id ∙ ap (λ b. if b then n else number_in es id) (eq-eqb id id refl)

pub past_first : (e : ℕ × ℤ) (es : List (ℕ × ℤ)) (other : ℕ) → e.0 < other → number_in (e ∷ es) other ≡ number_in es other
past_first e es other more = by_first e es other ∙ ap (λ b. if b then e.1 else number_in es other) (above_apart other e.0 more)

-- an id below all has no number
pub none_below : (from : ℕ) (es : List (ℕ × ℤ)) (id : ℕ) → IsRisingFrom from es → id < from → number_in es id ≡ pos 0
none_below from [] id rising less = refl
none_below from (e ∷ es) id rising less =
    by_first e es id ∙ ap (λ b. if b then e.1 else number_in es id) (below_apart id e.0 (omega (arith, less, rising.0)))
    ∙ none_below (e.0 + 1) es id rising.1 (omega (arith, less, rising.0))

-- entries in pairs that rise
pub rising_from : (from : ℕ) (es : List (ℕ × ℤ)) → AllPairs (λ a b. a.0 < b.0) es → ((k : ℕ) (d : ℕ × ℤ) → k < length es → from ≤ (get_or es k d).0) → IsRisingFrom from es
rising_from from [] pairs above = tt
rising_from from (e ∷ es) pairs above = (
  above 0 e (omega arith),
  rising_from (e.0 + 1) es (λ i j d before within. pairs (suc i) (suc j) d (omega (arith, before)) (omega (arith, within)))
      (λ k d within. let rises : e.0 < (get_or es k d).0 = pairs 0 (suc k) d (omega arith) (omega (arith, within)) in omega (arith, rises)),
)

pub rising_pairs : (es : List (ℕ × ℤ)) → AllPairs (λ a b. a.0 < b.0) es → IsRisingFrom 0 es
rising_pairs es pairs = rising_from 0 es pairs (λ k d within. omega arith)

pub none_laid : (number : ℕ → ℤ) → AreNumbersBelow 0 number []
none_laid number = record {
  rising = λ i j d before within. absurd (omega (arith, within));
  held = λ id n. (λ stands. absurd (omega (arith, stands.1)), λ is. absurd (omega (arith, is.0)));
}

-- ids that have the number 0 are passed over
pub skipped : (end id : ℕ) (number : ℕ → ℤ) (counts : List (ℕ × ℤ)) → end ≤ id → ((other : ℕ) → end ≤ other → other < id → number other ≡ pos 0)
    → AreNumbersBelow end number counts → AreNumbersBelow id number counts
skipped end id number counts more none are = record {
  rising = are.rising;
  held = λ other n. (
    λ stands. let is = (are.held other n).0 stands in (omega (arith, is.0, more), is.1, is.2),
    λ is. elim (cases_lt other end) [
      | inl less ↦ (are.held other n).1 (less, is.1, is.2)
      | inr over ↦ absurd (is.2 (sym is.1 ∙ none other over is.0))
    ],
  );
}

-- an id that has another number is the last
pub pushed : (id : ℕ) (n : ℤ) (number : ℕ → ℤ) (counts : List (ℕ × ℤ)) → number id ≡ n → n ≢ pos 0 → AreNumbersBelow id number counts
    → AreNumbersBelow (id + 1) number (counts ++ (id, n) ∷ [])
pushed id n number counts is apart are = record {
  rising = all_pairs_push (λ a b. a.0 < b.0) counts (id, n) are.rising
      (λ k d within. ((are.held (get_or counts k d).0 (get_or counts k d).1).0 (k, within, get_same counts k d within)).0);
  held = λ other m. (
    λ stands. elim (Contains-push_cases counts (id, n) (other, m) stands) [
      | inl was ↦ let had = (are.held other m).0 was in (omega (arith, had.0), had.1, had.2)
      | inr same ↦ subst (λ (p : ℕ × ℤ). (p.0 < id + 1) × (number p.0 ≡ p.1) × (p.1 ≢ pos 0)) same (omega arith, is, apart)
    ],
    λ had. elim (cases_lt other id) [
      | inl less ↦ Contains-append_left counts ((id, n) ∷ []) (other, m) ((are.held other m).1 (less, had.1, had.2))
      | inr over ↦
          let same : id ≡ other = omega (arith, over, had.0) in
          let number_same : n ≡ m = sym is ∙ ap number same ∙ had.1 in
          subst (λ (p : ℕ × ℤ). Contains (counts ++ (id, n) ∷ []) p) (λ i. (same i, number_same i)) (Contains-push counts (id, n))
    ],
  );
}
  where
    get_same : (xs : List (ℕ × ℤ)) (k : ℕ) (d : ℕ × ℤ) → k < length xs → get_or xs k (get_or xs k d) ≡ get_or xs k d
    get_same xs k d within = get_or_default xs k (get_or xs k d) d within

-- the first of the moves stands before all that is left of the base
pub lay_move : (number : ℕ → ℤ) (base : List (ℕ × ℤ)) (e : ℕ × ℤ) (rest counts counts2 : List (ℕ × ℤ)) → IsRisingFrom (e.0 + 1) base
    → ((end : ℕ) (numbers : ℕ → ℤ) → AreNumbersBelow end numbers counts → end ≤ e.0 → ((other : ℕ) → end ≤ other → other < e.0 → numbers other ≡ pos 0) → numbers e.0 ≡ e.1
    → AreNumbersBelow (e.0 + 1) numbers counts2)
    → AreLaid number base (e ∷ rest) counts → AreLaid number base rest counts2
lay_move number base e rest counts counts2 over push are =
    let zero_base = λ (other : ℕ) (less : other < e.0 + 1). none_below (e.0 + 1) base other over less in
    record {
      end = e.0 + 1;
      laid = push are.end number are.laid are.of_moves.0
          (λ other more less.
          let here = are.left other more in
          let none = zero_base other (omega (arith, less)) in
          let no_move = none_below e.0 (e ∷ rest) other (omega arith, are.of_moves.1) less in
          omega (arith, ints, here, none, no_move))
          (let here = are.left e.0 are.of_moves.0 in
          let none = zero_base e.0 (omega arith) in
          let first = at_first e.0 e.1 rest in
          omega (arith, ints, here, none, first));
      of_base = over;
      of_moves = are.of_moves.1;
      left = λ other more.
          let here = are.left other (omega (arith, more, are.of_moves.0)) in
          let past = past_first e rest other (omega (arith, more)) in
          omega (arith, ints, here, past);
    }

-- the first of the base stands before what is left of the moves, or with the first of them
pub lay_base : (number : ℕ → ℤ) (id : ℕ) (n by : ℤ) (others moves rest counts counts2 : List (ℕ × ℤ)) → IsRisingFrom id moves → IsBehind id moves by rest
    → ((end : ℕ) (numbers : ℕ → ℤ) → AreNumbersBelow end numbers counts → end ≤ id → ((other : ℕ) → end ≤ other → other < id → numbers other ≡ pos 0) → numbers id ≡ n +ℤ by
    → AreNumbersBelow (id + 1) numbers counts2)
    → AreLaid number ((id, n) ∷ others) moves counts → AreLaid number others rest counts2
lay_base number id n by others moves rest counts counts2 from behind push are = record {
  end = id + 1;
  laid = push are.end number are.laid are.of_base.0
      (λ other more less.
      let here = are.left other more in
      let none = none_below id ((id, n) ∷ others) other (omega arith, are.of_base.1) less in
      let no_move = none_below id moves other from less in
      omega (arith, ints, here, none, no_move))
      (let here = are.left id are.of_base.0 in
      let first = at_first id n others in
      omega (arith, ints, here, first, behind.here));
  of_base = are.of_base.1;
  of_moves = behind.rising;
  left = λ other more.
      let here = are.left other (omega (arith, more, are.of_base.0)) in
      let past = past_first (id, n) others other (omega (arith, more)) in
      let same = behind.same other (omega (arith, more)) in
      omega (arith, ints, here, past, same);
}

-- the first of the base and what the moves add to it come to its number
pub sum_at : (number : ℕ → ℤ) (id : ℕ) (n : ℤ) (others moves counts : List (ℕ × ℤ)) → AreLaid number ((id, n) ∷ others) moves counts → number id ≡ n +ℤ number_in moves id
sum_at number id n others moves counts are =
    let here = are.left id are.of_base.0 in
    let first = at_first id n others in
    omega (arith, ints, here, first)

-- where none is left, all were laid
pub all_laid : (number : ℕ → ℤ) (counts : List (ℕ × ℤ)) → AreLaid number [] [] counts → AreNumbers number counts
all_laid number counts are = record {
  rising = are.laid.rising;
  held = λ id n. (
    λ stands. let is = (are.laid.held id n).0 stands in (is.1, is.2),
    λ is. elim (cases_lt id are.end) [
      | inl less ↦ (are.laid.held id n).1 (less, is.0, is.1)
      | inr over ↦ absurd (is.1 (sym is.0 ∙ are.left id over))
    ],
  );
}

zero_or_not : (n : ℤ) → (n ≡ pos 0) ⊎ (n ≢ pos 0)
zero_or_not (pos zero) = inl refl
zero_or_not (pos (suc n)) = inr (λ same. cc)
zero_or_not (negsuc n) = inr (λ same. cc)

found_same : (es : List (ℕ × ℤ)) (id : ℕ) → lookup (is_at (nat_cmp id)) es ≡ lookup (nat_eq id) es
found_same [] id = refl
found_same (e ∷ es) id =
    ap (λ b. cond b (Some e.1) (lookup (is_at (nat_cmp id)) es)) (test_same id e.0) ∙ ap (cond (nat_eq id e.0) (Some e.1)) (found_same es id)

-- the numbers that were shown are those of the tally
pub number_shown : (number : ℕ → ℤ) (counts : List (ℕ × ℤ)) (id : ℕ) → AreNumbers number counts → number_in counts id ≡ number id
number_shown number counts id are = ap (λ o. unwrap_or o (pos 0)) (found_same counts id) ∙ by (lookup (nat_eq id) counts) refl
  where
    by : (o : Option ℤ) → lookup (nat_eq id) counts ≡ o → unwrap_or o (pos 0) ≡ number id
    by (Some n) is = sym ((are.held id n).0 (Contains-from_lookup eqb-true id n counts is)).0
    by None is = elim (zero_or_not (number id)) [
      | inl none ↦ sym none
      | inr some ↦
          let others = All-from_recursion (λ e. nat_eq id e.0 ≡ false) counts (none_passes_from_lookup (nat_eq id) counts is) in
          let other = All-contains (λ e. nat_eq id e.0 ≡ false) counts (id, number id) others ((are.held id (number id)).1 (refl, some)) in
          let same : nat_eq id id ≡ true = eq-eqb id id refl in
          absurd cc
    ]

-- moves behind an id leave it and all others
pub not_at : (id : ℕ) (moves : List (ℕ × ℤ)) → IsRisingFrom (id + 1) moves → IsBehind id moves (pos 0) moves
not_at id moves rising = record {
  here = none_below (id + 1) moves id rising (omega arith);
  rising = rising;
  same = λ other more. refl;
}
