-- How many bytes of a body begin a spelling, at most: there is one such number.
use Rattle.std.proofs.Common.{◌≡◌, ℕ, ◌<◌, List, [], ◌∷◌, ◌++◌, length, take, drop, sym, ap, subst, ◌∙◌, inl, inr, append_assoc, arith}
use Rattle.std.proofs.lemmas.Bool.{cases_lt}
use Rattle.std.proofs.lemmas.List.{length-drop, take-append-drop, take_at, take-append-le, append_cancel_left}

-- the front is that of a spelling, and with the next byte of the body it is that of none
pub record IsLongest {A : Type 0} (Spells : List ℕ → A → Type 0) (body : List ℕ) (at : ℕ) : Type 0 where
  pub front : List ℕ
  pub rest : List ℕ
  pub more : List ℕ
  pub value : A
  pub is : body ≡ front ++ rest
  pub place : at ≡ length front
  pub spells : Spells (front ++ more) value
  pub last : (byte : ℕ) (others behind : List ℕ) (other : A) → rest ≡ byte ∷ others → ¬ Spells (front ++ (byte ∷ behind)) other

not_longer : {A : Type 0} (Spells : List ℕ → A → Type 0) (body : List ℕ) (m n : ℕ) → IsLongest Spells body m → IsLongest Spells body n → ¬ (m < n)
not_longer Spells body m n a b less = longer (drop m b.front) begins (omega (arith, less, b.place, length-drop m b.front))
  where
    front : take m b.front ≡ a.front
    front = sym (take-append-le m b.front b.rest (omega (arith, less, b.place))) ∙ ap (take m) (sym b.is ∙ a.is) ∙ take_at a.front a.rest m (sym a.place)

    begins : b.front ≡ a.front ++ drop m b.front
    begins = sym (take-append-drop m b.front) ∙ ap (λ t. t ++ drop m b.front) front

    longer : (t : List ℕ) → b.front ≡ a.front ++ t → 0 < length t → ⊥
    longer [] e long = omega (arith, long)
    longer (byte ∷ tail) e long =
        let rests = append_cancel_left a.front a.rest (byte ∷ (tail ++ b.rest)) (sym a.is ∙ b.is ∙ ap (λ t. t ++ b.rest) e ∙ append_assoc a.front (byte ∷ tail) b.rest) in
        a.last byte (tail ++ b.rest) (tail ++ b.more) b.value rests (subst (λ t. Spells t b.value) (ap (λ t. t ++ b.more) e ∙ append_assoc a.front (byte ∷ tail) b.more) b.spells)

pub one_longest : {A : Type 0} (Spells : List ℕ → A → Type 0) (body : List ℕ) (m n : ℕ) → IsLongest Spells body m → IsLongest Spells body n → m ≡ n
one_longest Spells body m n a b = elim (cases_lt m n) [
  | inl less ↦ absurd (not_longer Spells body m n a b less)
  | inr le ↦ elim (cases_lt n m) [ inl less ↦ absurd (not_longer Spells body n m b a less) | inr le_too ↦ omega (arith, le, le_too) ]
]
