-- The marks in the words of the rules: how many numbers from 1 on pass a test, one after another.
use Rattle.std.proofs.Common.{◌≡◌, ◌∙◌, ◌≤◌, ℕ, zero, suc, Bool, true, false, nat_eq, ◌&&◌, max, inl, inr, refl, ap, subst, arith, if◌then◌else◌}
use Rattle.std.specs.Prelude.{IsTrue, ◌↔◌}
use Rattle.std.proofs.lemmas.Bool.{cases_lt, eqb-true, eq-eqb}
use Rattle.walter_base.proofs.NameTests.{both}
use Rattle.walter_rules.specs.Marks.{passed}
use Rattle.walter_durable.specs.Marks.{Holdings, own, IsHeld, AreHeld, HaveCalled, AreVisible, IsGreatest, IsDurableMark, IsVisibleMark}

-- each of the numbers up to n passes
abbrev pub ArePassing : (ℕ → Bool) → ℕ → Type 0
ArePassing test n = (q : ℕ) → 1 ≤ q → q ≤ n → IsTrue (test q)

module _ (test : ℕ → Bool) where
  no_more : (n : ℕ) → passed test n ≤ n
  no_more zero = omega arith
  no_more (suc n) = elim (nat_eq (passed test n) n && test (suc n))
      as (λ b. (if b then suc n else passed test n) ≤ suc n) [
        | true ↦ omega arith
        | false ↦ let less = no_more n in omega (arith, less)
      ]

  no_fewer : (n : ℕ) → passed test n ≤ passed test (suc n)
  no_fewer n = elim (nat_eq (passed test n) n && test (suc n))
      as (λ b. passed test n ≤ (if b then suc n else passed test n)) [
        | true ↦ let less = no_more n in omega (arith, less)
        | false ↦ omega arith
      ]

  -- those up to it pass
  pub they_pass : (n : ℕ) → ArePassing test (passed test n)
  they_pass zero q some le = absurd (omega (arith, some, le))
  they_pass (suc n) q some le = (elim (nat_eq (passed test n) n && test (suc n))
      as (λ b. (nat_eq (passed test n) n && test (suc n)) ≡ b
      → q ≤ (if b then suc n else passed test n) → IsTrue (test q)) [
        | true ↦ λ is within.
            let parts = both (nat_eq (passed test n) n) (test (suc n)) is in
            let all : passed test n ≡ n = eqb-true (passed test n) n parts.0 in
            elim (cases_lt n q) [
              | inl last ↦
                  let same : suc n ≡ q = omega (arith, last, within) in
                  subst (λ k. IsTrue (test k)) same parts.1
              | inr before ↦ they_pass n q some (omega (arith, before, all))
            ]
        | false ↦ λ is within. they_pass n q some within
      ]) refl le

  -- and it is the most
  pub it_is_most : (n k : ℕ) → k ≤ n → ArePassing test k → k ≤ passed test n
  it_is_most zero k le passing = omega (arith, le)
  it_is_most (suc n) k le passing = elim (cases_lt n k) [
    | inl last ↦
        let same : k ≡ suc n = omega (arith, last, le) in
        let before = it_is_most n n (omega arith) (λ q some within. passing q some (omega (arith, within, last))) in
        let all : passed test n ≡ n = omega (arith, before, no_more n) in
        let here : test (suc n) ≡ true = subst (λ q. IsTrue (test q)) same
        (passing k (omega (arith, same)) (omega arith)) in
        let next : passed test (suc n) ≡ suc n =
        ap (λ b. if b && test (suc n) then suc n else passed test n) (eq-eqb (passed test n) n all)
        ∙ ap (λ b. if b then suc n else passed test n) here in
        omega (arith, same, next)
    | inr before ↦ let some = it_is_most n k before passing in omega (arith, some, no_fewer n)
  ]

  -- so it is the greatest number of which something holds that holds where all up to it pass
  greatest_passed : (P : ℕ → Type 0) (most m : ℕ) → ((k : ℕ) → P k → k ≤ most) → ((k : ℕ) → P k → ArePassing test k)
      → ((k : ℕ) → k ≤ most → ArePassing test k → P k) → IsGreatest P m → m ≡ passed test most
  greatest_passed P most m within to from greatest =
      let less = it_is_most most m (within m greatest.one) (to m greatest.one) in
      let more = greatest.most (passed test most) (from (passed test most) (no_more most) (they_pass most)) in
      omega (arith, less, more)

-- the mark that is told is the rules' mark
pub durable_is : (test : ℕ → Bool) (H : Holdings) (mark : ℕ) → IsDurableMark H mark
    → ((q : ℕ) → 1 ≤ q → q ≤ own H → IsTrue (test q) ↔ IsHeld H q) → mark ≡ max H.durable_floor (passed test (own H))
durable_is test H mark is given =
    is.2 ∙ ap (max H.durable_floor) (greatest_passed test (AreHeld H) (own H) is.0 (λ k held. held.within)
    (λ k held q some le. let within = held.within in (given q some (omega (arith, le, within))).1 (held.each q some le))
    (λ k le passing. record {
      within = le;
      each = λ q some within. (given q some (omega (arith, le, within))).0 (passing q some within);
    })
    is.1)

pub visible_is : (test : ℕ → Bool) (H : Holdings) (mark : ℕ) → IsVisibleMark H mark
    → ((m : ℕ) → 1 ≤ m → m ≤ own H → IsTrue (test m) ↔ HaveCalled H m)
    → mark ≡ max H.visible_floor (passed test (own H))
visible_is test H mark is given =
    is.2 ∙ ap (max H.visible_floor) (greatest_passed test (AreVisible H) (own H) is.0 (λ k visible. visible.within)
    (λ k visible q some le.
    let within = visible.within in
    (given q some (omega (arith, le, within))).1 (λ peer lt apart.
    let called = visible.each peer lt apart in omega (arith, le, called)))
    (λ k le passing. record {
      within = le;
      each = λ peer lt apart. elim (cases_lt 0 k) [
        | inl some ↦ (given k (omega (arith, some)) le).0 (passing k (omega (arith, some)) (omega arith)) peer lt apart
        | inr none ↦ omega (arith, none)
      ];
    })
    is.1)
